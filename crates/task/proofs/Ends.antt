-- What stands past the blanks, from the front and from the back.
use Rattle.std.proofs.Common.{◌≡◌, ℕ, ◌-◌, ◌≤◌, Bool, List, [], ◌∷◌, ◌++◌, length, take, drop, reverse, sym, refl, ap, ◌∙◌, inl, inr, one-add, arith}
use Rattle.std.proofs.ByRecursion.{All-push}
use Rattle.std.proofs.Math.Seq.{drop-append_seam}
use Rattle.std.proofs.lemmas.List.{length-drop, length-reverse, reverse-append, reverse-reverse, take-append-drop, take_rest}
use Rattle.std.proofs.lemmas.List.Sums.{prefix_len-le-length}
use Rattle.std.proofs.lemmas.Bool.{cases_Bool}
use Rattle.std.specs.List.{AllByRecursion, prefix_len, take_while}
use Rattle.task.specs.Laws.{Blank, Solid, Trims}
use Rattle.task.specs.Text.{blank, past, trimmed}
use Rattle.task.proofs.Cuts.{drop_leading}

-- All but the last k elements.
reverse_drop : (xs : List ℕ) (k : ℕ) → k ≤ length xs → reverse (drop k (reverse xs)) ≡ take (length xs - k) xs
reverse_drop xs k within =
    let front = take (length xs - k) xs in
    let back = drop (length xs - k) xs in
    let whole : reverse xs ≡ reverse back ++ reverse front = ap reverse (sym (take-append-drop (length xs - k) xs)) ∙ reverse-append front back in
    let long : k ≡ length (reverse back) = omega (arith, length-reverse back, length-drop (length xs - k) xs) in
    ap (λ ys. reverse (drop k ys)) whole
    ∙ ap (λ n. reverse (drop n (reverse back ++ reverse front))) long
    ∙ ap reverse (drop-append_seam (reverse back) (reverse front))
    ∙ reverse-reverse front

-- A text without its leading or its trailing bytes that pass the test.
pub past_front : (test : ℕ → Bool) (xs : List ℕ) (n : ℕ) → n ≡ prefix_len test xs → take (length xs - n) (drop n xs) ≡ past test xs
past_front test xs n many = take_rest xs n ∙ ap (λ k. drop k xs) many ∙ drop_leading test xs

pub past_back : (test : ℕ → Bool) (xs : List ℕ) (n : ℕ) → n ≡ prefix_len test (reverse xs) → take (length xs - n) xs ≡ reverse (past test (reverse xs))
past_back test xs n many =
    sym (reverse_drop xs n (omega (arith, prefix_len-le-length test (reverse xs), length-reverse xs))) ∙ ap (λ k. reverse (drop k (reverse xs))) many ∙ ap reverse (drop_leading test (reverse xs))

all_reverse : (P : ℕ → Type 0) (xs : List ℕ) → AllByRecursion P xs → AllByRecursion P (reverse xs)
all_reverse P [] h = tt
all_reverse P (x ∷ xs) h = rw (reverse-append (x ∷ []) xs) (All-push P (reverse xs) x (all_reverse P xs h.1) h.0)

-- The leading blanks, and what stands past them.
lead_past : (bs : List ℕ) → bs ≡ take_while blank bs ++ past blank bs
lead_past bs = sym (take-append-drop (prefix_len blank bs) bs) ∙ ap (λ t. take_while blank bs ++ t) (drop_leading blank bs)

all_lead : (bs : List ℕ) → AllByRecursion Blank (take_while blank bs)
all_lead [] = tt
all_lead (b ∷ bs) = elim (cases_Bool (blank b)) [ inl e ↦ simp (e, one-add) (refl, all_lead bs) | inr e ↦ simp (e, one-add) tt ]

past_begins : (bs : List ℕ) (b : ℕ) (us : List ℕ) → past blank bs ≡ b ∷ us → Solid b
past_begins [] b us e = cc e
past_begins (x ∷ bs) b us e =
    elim (cases_Bool (blank x)) [
      | inl yes' ↦ past_begins bs b us (simp yes' at e)
      | inr no' ↦ let h : x ∷ bs ≡ b ∷ us = simp no' at e in let same : x ≡ b = cc in rw same at no'
    ]

trims : (bs : List ℕ) → Trims bs (trimmed bs)
trims bs =
    let s = past blank bs in
    let back = lead_past (reverse s) in
    let whole : s ≡ trimmed bs ++ reverse (take_while blank (reverse s)) = sym (reverse-reverse s) ∙ ap reverse back ∙ reverse-append (take_while blank (reverse s)) (past blank (reverse s)) in
    record {
      before = take_while blank bs;
      after = reverse (take_while blank (reverse s));
      whole = lead_past bs ∙ ap (λ t. take_while blank bs ++ t) whole;
      blank_before = all_lead bs;
      blank_after = all_reverse Blank (take_while blank (reverse s)) (all_lead (reverse s));
      begins = λ b us e. past_begins bs b (us ++ reverse (take_while blank (reverse s))) (whole ∙ ap (λ t. t ++ reverse (take_while blank (reverse s))) e);
      ends = λ us b e. past_begins (reverse s) b (reverse us) (sym (reverse-reverse (past blank (reverse s))) ∙ ap reverse e ∙ reverse-append us (b ∷ []));
    }

pub trimmed_text : (bs t : List ℕ) → t ≡ trimmed bs → Trims bs t
trimmed_text bs t e = rw e (trims bs)
