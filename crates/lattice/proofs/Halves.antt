-- A two-way step whose two ways undo one another keeps the exchange law where the threshold is half of all levels.
-- A word is its upper half, which fixes the site, and its level; at each site the levels below the threshold count for
-- one way and the others for the other.
use Rattle.std.proofs.Common.{◌≡◌, ℕ, zero, suc, ◌+◌, ◌-◌, ◌*◌, ◌/◌, ◌^◌, ◌<◌, ◌≤◌, Bool, true, false, cond, ltb, List, sym, refl, ap, ◌∙◌, subst, ap₂, ⊎_elim, add-zero, add_assoc, add-suc, suc-mul, mul_comm, mul-lt-mul_of_pos_right, zero-mul, arith}
use Rattle.std.proofs.lemmas.Nat.{div_below, div-mul-add, mod-mul-add}
use Rattle.std.proofs.lemmas.Slice.Eq.{bytes_eq-Decides}
use Rattle.std.proofs.lemmas.Bool.{cases_Bool, lt-ltb, le-ltb, both_ways}
use Rattle.std.specs.Str.{bytes_eq}
use Rattle.lattice.specs.Counts.{sum_below, same_as, Exchanges, two_way}
use Rattle.lattice.specs.Kind.{Meaning, Lawful}

pub sum_same : (n : ℕ) (f g : ℕ → ℕ) → ((k : ℕ) → k < n → f k ≡ g k) → sum_below n f ≡ sum_below n g
unfolding sum_below
sum_same zero f g same = refl
sum_same (suc n) f g same = ap₂ ◌+◌ (sum_same n f g (λ k h. same k (omega arith))) (same n (omega arith))

pub sum_join : (m n : ℕ) (f : ℕ → ℕ) → sum_below (m + n) f ≡ sum_below m f + sum_below n (λ k. f (m + k))
unfolding sum_below
sum_join m zero f = rw (add-zero m) (sym (add-zero (sum_below m f)))
sum_join m (suc n) f = rw (add-suc m n) (ap (λ (s : ℕ). s + f (m + n)) (sum_join m n f) ∙ add_assoc (sum_below m f) (sum_below n (λ k. f (m + k))) (f (m + n)))

pub sum_constant : (n c : ℕ) → sum_below n (λ k. c) ≡ n * c
unfolding sum_below
sum_constant zero c = sym (zero-mul c)
sum_constant (suc n) c = ap (λ (s : ℕ). s + c) (sum_constant n c) ∙ sym (suc-mul n c)

-- a sum over all pairs of a quotient and a remainder
pub sum_rows : (a b : ℕ) (f : ℕ → ℕ) → sum_below (a * b) f ≡ sum_below a (λ h. sum_below b (λ l. f (h * b + l)))
unfolding sum_below
sum_rows zero b f = rw (zero-mul b) refl
sum_rows (suc a) b f = rw (suc-mul a b) (sum_join (a * b) b f ∙ ap (λ (s : ℕ). s + sum_below b (λ l. f (a * b + l))) (sum_rows a b f))

-- of b levels, those below a go one way and the others the other way
levels_between : (b a : ℕ) (one other y : List ℕ) → a ≤ b → sum_below b (λ l. same_as (cond (ltb l a) one other) y) ≡ a * same_as one y + (b - a) * same_as other y
levels_between b a one other y h =
    let counted : ℕ → ℕ = λ l. same_as (cond (ltb l a) one other) y in
    let whole : a + (b - a) ≡ b = omega arith in
    subst (λ (k : ℕ). sum_below k counted ≡ a * same_as one y + (b - a) * same_as other y) whole
    (sum_join a (b - a) counted
    ∙ ap₂ ◌+◌
    (sum_same a counted (λ l. same_as one y) (λ l k. ap (λ (t : Bool). same_as (cond t one other) y) (lt-ltb l a k)) ∙ sum_constant a (same_as one y))
    (sum_same (b - a) (λ l. counted (a + l)) (λ l. same_as other y) (λ l k. ap (λ (t : Bool). same_as (cond t one other) y) (le-ltb (a + l) a (omega arith))) ∙ sum_constant (b - a) (same_as other y)))

-- the site of all words with this upper half
abbrev pub site_of_half : ℕ → ℕ → ℕ
site_of_half n high = high * n / 2 ^ 32

module _ (up down : ℕ → List ℕ → List ℕ) (threshold n : ℕ) (few : threshold ≤ 2 ^ 32) (x y : List ℕ) where
  half_word : (high l : ℕ) → l < 2 ^ 32 → two_way up down threshold n (high * 2 ^ 32 + l) x ≡ cond (ltb l threshold) (up (site_of_half n high) x) (down (site_of_half n high) x)
  half_word high l h =
      ap₂ (λ (q r : ℕ). cond (ltb r threshold) (up (q * n / 2 ^ 32) x) (down (q * n / 2 ^ 32) x)) (div-mul-add high (2 ^ 32) l h) (mod-mul-add high (2 ^ 32) l h)

  -- how many words lead x to y, counted by upper halves
  pub words_by_half : sum_below (2 ^ 64) (λ w. same_as (two_way up down threshold n w x) y) ≡ sum_below (2 ^ 32) (λ high. threshold * same_as (up (site_of_half n high) x) y + (2 ^ 32 - threshold) * same_as (down (site_of_half n high) x) y)
  words_by_half =
      sum_rows (2 ^ 32) (2 ^ 32) (λ w. same_as (two_way up down threshold n w x) y)
      ∙ sum_same (2 ^ 32) _ _
      (λ high h.
      sum_same (2 ^ 32) _ _ (λ l k. ap (λ (z : List ℕ). same_as z y) (half_word high l k))
      ∙ levels_between (2 ^ 32) threshold (up (site_of_half n high) x) (down (site_of_half n high) x) y few)

-- Each way undoes the other where it changes anything.
abbrev pub Undo : Meaning → (up down : ℕ → List ℕ → List ℕ) → ℕ → Type 0
Undo m up down n = (i : ℕ) → i < n → (x y : List ℕ) → Lawful m x → Lawful m y → (x ≡ y → ⊥) → (up i x ≡ y → down i y ≡ x) × (down i x ≡ y → up i y ≡ x)

-- two comparisons that follow from one another count the same
pub same_counts : (a b c d : List ℕ) → (a ≡ b → c ≡ d) → (c ≡ d → a ≡ b) → same_as a b ≡ same_as c d
same_counts a b c d there back =
    let left = bytes_eq-Decides a b in
    let right = bytes_eq-Decides c d in
    ⊎_elim
    (λ (t : bytes_eq a b ≡ true). rw (t, right.1 (there (left.0 t))) refl)
    (λ (f : bytes_eq a b ≡ false).
    ⊎_elim
    (λ (t : bytes_eq c d ≡ true). absurd (both_ways (bytes_eq a b) f (left.1 (back (right.0 t)))))
    (λ (g : bytes_eq c d ≡ false). rw (f, g) refl)
    (cases_Bool (bytes_eq c d)))
    (cases_Bool (bytes_eq a b))

site_below : (high n : ℕ) → high < 2 ^ 32 → 0 < n → site_of_half n high < n
site_below high n h p = div_below (high * n) (2 ^ 32) n (omega arith) (rw (mul_comm n (2 ^ 32)) (mul-lt-mul_of_pos_right h p))

module _ (m : Meaning) (up down : ℕ → List ℕ → List ℕ) (n : ℕ) (some : 0 < n) (undo : Undo m up down n) where
  at_half : (high : ℕ) → high < 2 ^ 32 → (x y : List ℕ) → Lawful m x → Lawful m y → (x ≡ y → ⊥) → 2 ^ 31 * same_as (up (site_of_half n high) x) y + (2 ^ 32 - 2 ^ 31) * same_as (down (site_of_half n high) x) y ≡ 2 ^ 31 * same_as (up (site_of_half n high) y) x + (2 ^ 32 - 2 ^ 31) * same_as (down (site_of_half n high) y) x
  at_half high h x y hx hy apart =
      let i = site_of_half n high in
      let within : i < n = site_below high n h some in
      let there = undo i within x y hx hy apart in
      let back = undo i within y x hy hx (λ e. apart (sym e)) in
      let rises = same_counts (up i x) y (down i y) x there.0 back.1 in
      let falls = same_counts (down i x) y (up i y) x there.1 back.0 in
      omega (arith, rises, falls)

  pub exchanges : ((w : ℕ) (x : List ℕ) → m.step w x ≡ two_way up down (2 ^ 31) n w x) → Exchanges m
  exchanges same x y hx hy =
      let told = bytes_eq-Decides x y in
      ⊎_elim
      (λ (t : bytes_eq x y ≡ true). let e = told.0 t in rw e refl)
      (λ (f : bytes_eq x y ≡ false).
      let apart : x ≡ y → ⊥ = λ e. both_ways (bytes_eq x y) f (told.1 e) in
      sum_same (2 ^ 64) _ _ (λ w h. ap (λ (z : List ℕ). same_as z y) (same w x))
      ∙ words_by_half up down (2 ^ 31) n (omega arith) x y
      ∙ sum_same (2 ^ 32) _ _ (λ high h. at_half high h x y hx hy apart)
      ∙ sym (words_by_half up down (2 ^ 31) n (omega arith) y x)
      ∙ sym (sum_same (2 ^ 64) _ _ (λ w h. ap (λ (z : List ℕ). same_as z x) (same w y))))
      (cases_Bool (bytes_eq x y))
