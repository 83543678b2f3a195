-- Bytes read from hex, one after another.
use Rattle.std.proofs.Common.{◌≡◌, ℕ, ◌+◌, ◌*◌, ◌/◌, ◌%◌, ◌<◌, ◌&&◌, Bool, false, List, [], ◌∷◌, map, length, Some, None, Ok, Err, is_some, codes, Option, Result, refl, sym, ap, ◌∙◌, inl, inr, arith}
use Rattle.std.proofs.lemmas.Slice.Eq.{bytes_eq-Decides}
use Rattle.std.proofs.lemmas.Bool.{cases_Bool, cases_eq}
use Rattle.std.proofs.lemmas.Bool.Decides.{nat_tests, not_from_Decides}
use Rattle.std.proofs.Math.Bool.{and_assoc}
use Rattle.std.specs.Str.{bytes_eq}
use Rattle.std.specs.Char.{digit_char, is_ascii_hexdigit, to_ascii_lowercase}
use Rattle.std.specs.List.{AllByRecursion, list_all}
use Rattle.task.specs.Laws.{hex_text, ReadsHex}
use Rattle.std.specs.Bool.{then_some}
use Rattle.std.specs.Option.{option_map}
use Rattle.std.specs.Result.{MatchResult, is_ok, result_ok}
use Rattle.hex.specs.Hex.{decode_pairs, decode_sized, digit_or_error, hex_digit_value, ◌>>=◌}
use Rattle.hex.specs.declared.error.FromHexError.{FromHexError}
use Rattle.hex.proofs.HexLemmas.{decode_of-even, decode_sized-odd, decode_sized-twice}
use Rattle.task.specs.Text.{both, hex_digit, hex_byte, hex_bytes, hex_pairs}

-- A digit, a pair of digits and a text of pairs as the library reads them, but for what is wrong with them.
digit : (c : ℕ) → hex_digit_value c ≡ hex_digit c
digit c = grind (arith, nat_tests)

pair_more : (a b i : ℕ) (x y : Option ℕ) (r : Result (List ℕ) FromHexError) → result_ok ((digit_or_error a i x >>= (λ h. digit_or_error b (i + 1) y >>= (λ l. Ok (h * 16 + l)))) >>= (λ v. r >>= (λ vs. Ok (v ∷ vs)))) ≡ both (λ v vs. v ∷ vs) (both (λ h l. 16 * h + l) x y) (result_ok r)
pair_more a b i None y r = refl
pair_more a b i (Some h) None r = refl
pair_more a b i (Some h) (Some l) (Ok vs) = let e : h * 16 + l ≡ 16 * h + l = omega arith in rw e
pair_more a b i (Some h) (Some l) (Err e) = refl

pairs : (i : ℕ) (w : List ℕ) → result_ok (decode_pairs i w) ≡ hex_pairs w
unfolding decode_pairs
pairs i [] = refl
pairs i (a ∷ []) = refl
pairs i (a ∷ b ∷ cs) = pair_more a b i (hex_digit_value a) (hex_digit_value b) (decode_pairs (i + 2) cs) ∙ rw (digit a, digit b, pairs (i + 2) cs)

both_none : {A B C : Type 0} (f : A → B → C) (x : Option A) → both f x None ≡ None
both_none f None = refl
both_none f (Some x) = refl

pub odd_pairs : (w : List ℕ) → length w % 2 ≡ 1 → hex_pairs w ≡ None
odd_pairs [] odd = absurd (omega arith)
odd_pairs (a ∷ []) odd = refl
odd_pairs (a ∷ b ∷ cs) odd = rw (odd_pairs cs (omega arith)) (both_none _ (hex_byte a b))

sized : (w : List ℕ) → result_ok (decode_sized w (length w / 2)) ≡ hex_pairs w
sized w =
    elim (cases_eq (length w % 2) 1) [
      | inl odd ↦ ap result_ok (decode_sized-odd w (length w / 2) odd) ∙ sym (odd_pairs w odd)
      | inr even ↦ ap result_ok (decode_sized-twice w (length w / 2) (omega arith) ∙ decode_of-even w (omega arith)) ∙ pairs 0 w
    ]

-- What the library writes into room for the bytes of half as many digits.
written : (d : Result (List ℕ) FromHexError) (r : Result (Unit {0}) FromHexError) (out : List ℕ) → MatchResult d (λ bs. (r ≡ Ok tt) × (out ≡ bs)) (λ e. r ≡ Err e) → option_map (λ _. out) (result_ok r) ≡ result_ok d
written (Ok bs) r out h = rw h.0 (ap Some h.1)
written (Err e) r out h = rw h

pub bytes_read : (w out : List ℕ) (n : ℕ) (r : Result (Unit {0}) FromHexError) → false ≡ bytes_eq w (codes "-") → n ≡ length w / 2 → MatchResult (decode_sized w n) (λ bs. (r ≡ Ok tt) × (out ≡ bs)) (λ e. r ≡ Err e) → option_map (λ _. out) (result_ok r) ≡ hex_bytes w
bytes_read w out n r other room h = rw (← other) (written (decode_sized w n) r out h ∙ ap (λ k. result_ok (decode_sized w k)) room ∙ sized w)

-- A digit is read as what writes it.
digit_writes : (c d : ℕ) → hex_digit c ≡ Some d → (d < 16) × (to_ascii_lowercase c ≡ digit_char d)
digit_writes c d e = grind (arith, nat_tests)

digit_reads : (c d : ℕ) → d < 16 → to_ascii_lowercase c ≡ digit_char d → hex_digit c ≡ Some d
digit_reads c d small e = grind (arith, nat_tests)

both_some : {A B C : Type 0} (f : A → B → C) (x : Option A) (y : Option B) (z : C) → both f x y ≡ Some z → (u : A) × (v : B) × (x ≡ Some u) × (y ≡ Some v) × (z ≡ f u v)
both_some f None y z e = cc e
both_some f (Some u) None z e = cc e
both_some f (Some u) (Some v) z e = (u, v, refl, refl, cc)

pairs_write : (w bs : List ℕ) → hex_pairs w ≡ Some bs → map to_ascii_lowercase w ≡ hex_text bs
pairs_write [] bs e = let h : bs ≡ [] = cc in rw h
pairs_write (a ∷ []) bs e = cc e
pairs_write (a ∷ b ∷ cs) bs e =
    let p = both_some _ (hex_byte a b) (hex_pairs cs) bs e in
    let q = both_some _ (hex_digit a) (hex_digit b) p.0 p.2 in
    let high = digit_writes a q.0 q.2 in
    let low = digit_writes b q.1 q.3 in
    let above : q.0 ≡ p.0 / 16 = omega arith in
    let below : q.1 ≡ p.0 % 16 = omega arith in
    rw (p.4, high.1, low.1, above, below, pairs_write cs p.1 p.3)

pairs_read : (bs w : List ℕ) → AllByRecursion (λ b. b < 256) bs → map to_ascii_lowercase w ≡ hex_text bs → hex_pairs w ≡ Some bs
pairs_read [] [] small e = refl
pairs_read [] (a ∷ w) small e = cc e
pairs_read (x ∷ bs) [] small e = cc e
pairs_read (x ∷ bs) (a ∷ []) small e = cc e
pairs_read (x ∷ bs) (a ∷ b ∷ cs) small e =
    let high = digit_reads a (x / 16) (omega arith) (cc) in
    let low = digit_reads b (x % 16) (omega arith) (cc) in
    let whole : 16 * (x / 16) + x % 16 ≡ x = omega arith in
    rw (high, low, pairs_read bs cs small.1 (cc), whole)

law_from : (w : List ℕ) (o : Option (List ℕ)) → hex_pairs w ≡ o → (w ≡ codes "-" → ⊥) → ReadsHex w o
law_from w None e other = λ bytes small writes. elim writes [
  | inl digits ↦ let f = pairs_read bytes w small digits in cc (e, f)
  | inr dash ↦ other dash.0
]
law_from w (Some bytes) e other = inl (pairs_write w bytes e)

-- Which bytes are digits, and which words pairs of digits.
digit_there : (c : ℕ) → is_some (hex_digit c) ≡ is_ascii_hexdigit c
digit_there c = grind (arith, nat_tests)

both_there : {A B C : Type 0} (f : A → B → C) (x : Option A) (y : Option B) → is_some (both f x y) ≡ (is_some x && is_some y)
both_there f None y = refl
both_there f (Some x) None = refl
both_there f (Some x) (Some y) = refl

pub even_pairs : (w : List ℕ) → length w % 2 ≡ 0 → is_some (hex_pairs w) ≡ list_all is_ascii_hexdigit w
even_pairs [] even = refl
even_pairs (a ∷ []) even = absurd (omega arith)
even_pairs (a ∷ b ∷ cs) even =
    rw (both_there, both_there, digit_there a, digit_there b, even_pairs cs (omega arith)) (and_assoc (is_ascii_hexdigit a) (is_ascii_hexdigit b) (list_all is_ascii_hexdigit cs))

pub none_there : {A : Type 0} (o : Option A) → false ≡ is_some o → None ≡ o
none_there None none = refl
none_there (Some x) none = cc none

pub hex_law : (w : List ℕ) → ReadsHex w (hex_bytes w)
hex_law w =
    let same = bytes_eq-Decides w (codes "-") in
    elim (cases_Bool (bytes_eq w (codes "-"))) [
      | inl e ↦ rw e (inr (same.0 e, refl))
      | inr e ↦ rw e (law_from w (hex_pairs w) refl (not_from_Decides _ same e))
    ]

-- The same of what `then_some` makes of the bytes written.
pub bytes_kept : {V : Type 0} (items : V → List ℕ) (v : V) (o : Option V) (ok : Bool) (w out : List ℕ) (r : Result (Unit {0}) FromHexError) → o ≡ then_some ok v → ok ≡ is_ok r → items v ≡ out → option_map (λ _. out) (result_ok r) ≡ hex_bytes w → option_map items o ≡ hex_bytes w
bytes_kept items v o ok w out (Ok u) some read same h = rw (some, read, same) h
bytes_kept items v o ok w out (Err e) some read same h = rw (some, read) h
