-- A word in 16 hex digits: its digits, filled up with zeros.
use Rattle.std.proofs.Common.{◌≡◌, ℕ, zero, suc, ◌+◌, ◌-◌, ◌*◌, ◌/◌, ◌%◌, ◌^◌, ◌<◌, ◌≤◌, Bool, true, false, cond, eqb, List, [], ◌∷◌, ◌++◌, length, replicate, refl, sym, ap, subst, ◌∙◌, ⊎_elim, arith}
use Rattle.std.proofs.lemmas.List.{append-nil}
use Rattle.std.proofs.Common.{append_assoc}
use Rattle.std.proofs.Math.Nat.{div-div-eq-div-mul, div-one, zero-div}
use Rattle.std.proofs.lemmas.Nat.{pow-add}
use Rattle.std.proofs.lemmas.Bool.{cases_lt}
use borrow.Author.Tests.{eq-eqb, ne_eqb}
use Rattle.std.specs.Fmt.{digits, digits_onto, format_spec, padded_integral, char_count}
use Rattle.std.specs.Char.{digit_char}
use Rattle.session.specs.Printed.{hex_digits}

-- the digits above the last are those of the sixteenth
above_last : (k n : ℕ) → n / 2 ^ (4 * suc k) ≡ n / 16 / 2 ^ (4 * k)
above_last k n =
    let more : 4 * suc k ≡ 4 + 4 * k = omega arith in
    ap (λ (e : ℕ). n / 2 ^ e) more ∙ ap (λ (m : ℕ). n / m) (pow-add 2 4 (4 * k)) ∙ sym (div-div-eq-div-mul n 16 (2 ^ (4 * k)))

last_digit : (k n : ℕ) → hex_digits (suc k) n ≡ hex_digits k (n / 16) ++ digit_char (n % 16) ∷ []
unfolding hex_digits
last_digit zero n = ap (λ (m : ℕ). digit_char (m % 16) ∷ []) (div-one n)
last_digit (suc k) n =
    ap (λ (m : ℕ). digit_char (m % 16) ∷ hex_digits (suc k) n) (above_last k n)
    ∙ ap (λ (l : List ℕ). digit_char (n / 16 / 2 ^ (4 * k) % 16) ∷ l) (last_digit k n)

zeros : (k : ℕ) → hex_digits k 0 ≡ replicate k 48
unfolding hex_digits
zeros zero = refl
zeros (suc k) =
    ap (λ (m : ℕ). digit_char (m % 16) ∷ hex_digits k 0) (zero-div (2 ^ (4 * k))) ∙ ap (λ (l : List ℕ). 48 ∷ l) (zeros k)

-- the digits of n before acc, filled up with zeros to k of them
abbrev Filled : (k n : ℕ) (acc ds : List ℕ) → Type 0
Filled k n acc ds = replicate (k + length acc - length ds) 48 ++ ds ≡ hex_digits k n ++ acc

one_digit : (k n : ℕ) (acc : List ℕ) → n < 16 → Filled (suc k) n acc (digit_char (n % 16) ∷ acc)
one_digit k n acc small =
    let none : n / 16 ≡ 0 = omega arith in
    let left : suc k + length acc - suc (length acc) ≡ k = omega arith in
    let last = last_digit k n in
    rw (left, last, none, zeros k) (sym (append_assoc (replicate k 48) (digit_char (n % 16) ∷ []) acc))

one_more : (k n : ℕ) (acc ds : List ℕ) → Filled k (n / 16) (digit_char (n % 16) ∷ acc) ds → Filled (suc k) n acc ds
one_more k n acc ds told =
    let same : suc k + length acc - length ds ≡ k + suc (length acc) - length ds = omega arith in
    rw (same, last_digit k n) (told ∙ sym (append_assoc (hex_digits k (n / 16)) (digit_char (n % 16) ∷ []) acc))

-- the digits are written from the last on
spelled : (j n : ℕ) (acc : List ℕ) (t : Bool) → eqb (n / 16) 0 ≡ t → digits_onto (suc j) 16 false n acc ≡ cond t (digit_char (n % 16) ∷ acc) (digits_onto j 16 false (n / 16) (digit_char (n % 16) ∷ acc))
spelled j n acc t e = ap (λ (b : Bool). cond b (digit_char (n % 16) ∷ acc) (digits_onto j 16 false (n / 16) (digit_char (n % 16) ∷ acc))) e

some_left : (k n : ℕ) → 16 ≤ n → n < 16 * 2 ^ (4 * k) → 0 < k
some_left zero n from top = absurd (omega arith)
some_left (suc k) n from top = omega arith

filled : (k j n : ℕ) (acc : List ℕ) → 0 < k → k ≤ j → n < 2 ^ (4 * k) → Filled k n acc (digits_onto j 16 false n acc)
filled zero j n acc some within small = absurd (omega arith)
filled (suc k) zero n acc some within small = absurd (omega arith)
filled (suc k) (suc j) n acc some within small = ⊎_elim
    (λ below. subst (Filled (suc k) n acc) (sym (spelled j n acc true (eq-eqb (n / 16) 0 (omega arith)))) (one_digit k n acc below))
    (λ from.
    let more : 4 * suc k ≡ 4 + 4 * k = omega arith in
    let top : n < 16 * 2 ^ (4 * k) = subst (λ (m : ℕ). n < m) (ap (λ (e : ℕ). 2 ^ e) more ∙ pow-add 2 4 (4 * k)) small in
    subst (Filled (suc k) n acc) (sym (spelled j n acc false (ne_eqb (n / 16) 0 (λ e. omega arith))))
    (one_more k n acc _ (filled k j (n / 16) (digit_char (n % 16) ∷ acc) (some_left k n from top) (omega arith) (omega arith))))
    (cases_lt n 16)

-- what `{:016x}` writes of a word
pub hex_word : (n : ℕ) → n < 2 ^ 64 → padded_integral (format_spec 32 0 4 16 (2 ^ 64 - 1)) false [] (digits 16 false n) ≡ hex_digits 16 n
unfolding padded_integral char_count digits
hex_word n small =
    let ds = digits 16 false n in
    let told = filled 16 64 n [] (omega arith) (omega arith) (omega arith) in
    let width : 16 - length ds - 0 - 0 ≡ 16 + 0 - length ds = omega arith in
    rw (append-nil ds, width) (told ∙ append-nil (hex_digits 16 n))
