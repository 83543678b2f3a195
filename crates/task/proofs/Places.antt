-- Reading digits from the left gives what their places are worth.
use Rattle.std.proofs.Common.{◌≡◌, ℕ, ◌+◌, ◌-◌, ◌*◌, ◌^◌, ◌<◌, ◌≤◌, true, false, cond, ◌&&◌, ltb, List, [], ◌∷◌, length, Some, None, Option, sym, refl, ap, ◌∙◌, inl, inr, ⊎_elim, mul_assoc, add-mul, le-mul_of_pos_right, arith}
use native.Mathlib.Nat.{pow-succ', one-le-pow}
use Rattle.std.proofs.lemmas.Bool.{cases_Bool, cond-false, lt-ltb, le-ltb, ltb-true, ltb-false, and_parts, and_cases, and_left, and_right}
use Rattle.std.specs.Int.{is_in_range}
use Rattle.task.specs.Text.{all_digits, worth, longer, number}

-- The digits of a list behind those of n.
abbrev pub after : Option ℕ → List ℕ → Option ℕ
after o [] = o
after None (b ∷ bs) = None
after (Some n) (b ∷ bs) = after (longer n b) bs

-- What n and the digits behind it are worth.
abbrev total : ℕ → List ℕ → ℕ
total n bs = n * 10 ^ length bs + worth bs

total_more : (n b : ℕ) (bs : List ℕ) → total n (b ∷ bs) ≡ total (n * 10 + (b - 48)) bs
total_more n b bs = rw (pow-succ', add-mul, mul_assoc) (omega arith)

-- One more digit makes the number no smaller.
total_ge : (n : ℕ) (bs : List ℕ) → n ≤ total n bs
total_ge n bs = omega (arith, le-mul_of_pos_right n (one-le-pow (length bs) 10 (omega arith)))

pub after_none : (bs : List ℕ) → after None bs ≡ None
after_none [] = refl
after_none (b ∷ bs) = refl

after_is : (bs : List ℕ) (n : ℕ) → n < 2 ^ 64 → after (Some n) bs ≡ cond (all_digits bs && ltb (total n bs) (2 ^ 64)) (Some (total n bs)) None
after_is [] n fits = let e : n * 1 + 0 ≡ n = omega arith in rw (e, lt-ltb n (2 ^ 64) fits)
after_is (b ∷ bs) n fits =
    let m = n * 10 + (b - 48) in
    let more = total_more n b bs in
    elim (cases_Bool (is_in_range 48 57 b && ltb m (2 ^ 64))) [
      | inl e ↦
          let p = and_parts (is_in_range 48 57 b) (ltb m (2 ^ 64)) e in
          let digit : is_in_range 48 57 b ≡ true = p.0 in
          let room : ltb m (2 ^ 64) ≡ true = p.1 in
          simp (digit, room, more) (after_is bs m (ltb-true m (2 ^ 64) room))
      | inr e ↦
          let none = ap (λ o. after o bs) (cond-false _ (Some m) None e) ∙ after_none bs in
          let much : ltb m (2 ^ 64) ≡ false → ltb (total n (b ∷ bs)) (2 ^ 64) ≡ false = λ f. le-ltb _ _ (omega (arith, more, total_ge m bs, ltb-false m (2 ^ 64) f)) in
          none ∙ sym (cond-false _ _ _ (⊎_elim (λ d. and_left _ _ (and_left (is_in_range 48 57 b) (all_digits bs) d)) (λ f. and_right (all_digits (b ∷ bs)) _ (much f)) (and_cases (is_in_range 48 57 b) _ e)))
    ]

pub number_is : (w : List ℕ) → 0 < length w → after (Some 0) w ≡ number w
number_is [] more = absurd (omega arith)
number_is (b ∷ bs) more = let e : total 0 (b ∷ bs) ≡ worth (b ∷ bs) = omega arith in rw e at (after_is (b ∷ bs) 0 (omega arith))
