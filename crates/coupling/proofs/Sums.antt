-- Sums over numbers, lists of words and lists of states.
use Rattle.std.proofs.Common.{◌≡◌, ℕ, zero, suc, ◌+◌, ◌*◌, ◌^◌, ◌<◌, ◌≤◌, List, [], ◌∷◌, length, sym, refl, ap, ◌∙◌, subst, ap₂, inl, inr, mul-suc, add-mul, mul-zero, zero-mul, arith}
use Rattle.std.proofs.lemmas.Slice.Eq.{bytes_eq-Decides}
use Rattle.lattice.specs.Counts.{same_as, sum_below}
use Rattle.lattice.specs.Kind.{Distinct, Holds}
use Rattle.lattice.proofs.Halves.{sum_constant, sum_same}
use Rattle.coupling.proofs.Outcomes.{unequal}
use Rattle.coupling.specs.Lead.{Words}
use Rattle.coupling.specs.Shares.{sum_lists}

sum_le : (n : ℕ) (f g : ℕ → ℕ) → ((k : ℕ) → k < n → f k ≤ g k) → sum_below n f ≤ sum_below n g
unfolding sum_below
sum_le zero f g le = omega arith
sum_le (suc n) f g le = let rest = sum_le n f g (λ k h. le k (omega arith)) in let last = le n (omega arith) in omega arith

pub sum_add : (n : ℕ) (f g : ℕ → ℕ) → sum_below n (λ k. f k + g k) ≡ sum_below n f + sum_below n g
unfolding sum_below
sum_add zero f g = refl
sum_add (suc n) f g = let rest = sum_add n f g in omega arith

pub sum_times : (n : ℕ) (f : ℕ → ℕ) (c : ℕ) → sum_below n (λ k. f k * c) ≡ sum_below n f * c
unfolding sum_below
sum_times zero f c = sym (zero-mul c)
sum_times (suc n) f c = ap (λ (s : ℕ). s + f n * c) (sum_times n f c) ∙ sym (add-mul (sum_below n f) (f n) c)

-- over all lists of n words
pub lists_same : (n : ℕ) (f g : List ℕ → ℕ) → ((ws : List ℕ) → Words ws → f ws ≡ g ws) → sum_lists n f ≡ sum_lists n g
unfolding sum_lists
lists_same zero f g same = same [] tt
lists_same (suc n) f g same = sum_same (2 ^ 64) _ _ (λ w h. lists_same n (λ ws. f (w ∷ ws)) (λ ws. g (w ∷ ws)) (λ ws all. same (w ∷ ws) (h, all)))

pub lists_le : (n : ℕ) (f g : List ℕ → ℕ) → ((ws : List ℕ) → Words ws → f ws ≤ g ws) → sum_lists n f ≤ sum_lists n g
unfolding sum_lists
lists_le zero f g le = le [] tt
lists_le (suc n) f g le = sum_le (2 ^ 64) _ _ (λ w h. lists_le n (λ ws. f (w ∷ ws)) (λ ws. g (w ∷ ws)) (λ ws all. le (w ∷ ws) (h, all)))

pub lists_add : (n : ℕ) (f g : List ℕ → ℕ) → sum_lists n (λ ws. f ws + g ws) ≡ sum_lists n f + sum_lists n g
unfolding sum_lists
lists_add zero f g = refl
lists_add (suc n) f g =
    sum_same (2 ^ 64) _ _ (λ w h. lists_add n (λ ws. f (w ∷ ws)) (λ ws. g (w ∷ ws)))
    ∙ sum_add (2 ^ 64) (λ w. sum_lists n (λ ws. f (w ∷ ws))) (λ w. sum_lists n (λ ws. g (w ∷ ws)))

pub lists_times : (n : ℕ) (f : List ℕ → ℕ) (c : ℕ) → sum_lists n (λ ws. f ws * c) ≡ sum_lists n f * c
unfolding sum_lists
lists_times zero f c = refl
lists_times (suc n) f c =
    sum_same (2 ^ 64) _ _ (λ w h. lists_times n (λ ws. f (w ∷ ws)) c)
    ∙ sum_times (2 ^ 64) (λ w. sum_lists n (λ ws. f (w ∷ ws))) c

lists_zero : (n : ℕ) → sum_lists n (λ ws. 0) ≡ 0
unfolding sum_lists
lists_zero zero = refl
lists_zero (suc n) = sum_same (2 ^ 64) _ (λ w. 0) (λ w h. lists_zero n) ∙ sum_constant (2 ^ 64) 0

-- over a list of states
abbrev pub over : List (List ℕ) → (List ℕ → ℕ) → ℕ
over [] f = 0
over (x ∷ xs) f = f x + over xs f

pub over_same : (xs : List (List ℕ)) (f g : List ℕ → ℕ) → ((x : List ℕ) → Holds xs x → f x ≡ g x) → over xs f ≡ over xs g
over_same [] f g same = refl
over_same (x ∷ xs) f g same = ap₂ ◌+◌ (same x (inl refl)) (over_same xs f g (λ y h. same y (inr h)))

pub over_add : (xs : List (List ℕ)) (f g : List ℕ → ℕ) → over xs (λ x. f x + g x) ≡ over xs f + over xs g
over_add [] f g = refl
over_add (x ∷ xs) f g = let rest = over_add xs f g in omega arith

pub over_times : (xs : List (List ℕ)) (f : List ℕ → ℕ) (c : ℕ) → over xs (λ x. f x * c) ≡ over xs f * c
over_times [] f c = sym (zero-mul c)
over_times (x ∷ xs) f c = ap (λ (s : ℕ). f x * c + s) (over_times xs f c) ∙ sym (add-mul (f x) (over xs f) c)

pub over_constant : (xs : List (List ℕ)) (c : ℕ) → over xs (λ x. c) ≡ c * length xs
over_constant [] c = sym (mul-zero c)
over_constant (x ∷ xs) c = let rest = over_constant xs c in omega (arith, mul-suc c (length xs))

pub over_le : (xs : List (List ℕ)) (f : List ℕ → ℕ) → ((x : List ℕ) → f x ≤ 1) → over xs f ≤ length xs
over_le [] f le = omega arith
over_le (x ∷ xs) f le = let rest = over_le xs f le in let here = le x in omega arith

-- exchanging two sums
pub over_over : (xs ys : List (List ℕ)) (f : List ℕ → List ℕ → ℕ) → over xs (λ x. over ys (λ y. f x y)) ≡ over ys (λ y. over xs (λ x. f x y))
over_over [] ys f = sym (over_constant ys 0 ∙ zero-mul (length ys))
over_over (x ∷ xs) ys f = ap (λ (s : ℕ). over ys (f x) + s) (over_over xs ys f) ∙ sym (over_add ys (f x) (λ y. over xs (λ z. f z y)))

pub sum_over : (n : ℕ) (xs : List (List ℕ)) (f : ℕ → List ℕ → ℕ) → sum_below n (λ k. over xs (λ x. f k x)) ≡ over xs (λ x. sum_below n (λ k. f k x))
sum_over n [] f = sum_constant n 0 ∙ mul-zero n
sum_over n (x ∷ xs) f = sum_add n (λ k. f k x) (λ k. over xs (λ y. f k y)) ∙ ap (λ (s : ℕ). sum_below n (λ k. f k x) + s) (sum_over n xs f)

pub lists_over : (n : ℕ) (xs : List (List ℕ)) (f : List ℕ → List ℕ → ℕ) → sum_lists n (λ ws. over xs (λ x. f ws x)) ≡ over xs (λ x. sum_lists n (λ ws. f ws x))
lists_over n [] f = lists_zero n
lists_over n (x ∷ xs) f = lists_add n (λ ws. f ws x) (λ ws. over xs (λ y. f ws y)) ∙ ap (λ (s : ℕ). sum_lists n (λ ws. f ws x) + s) (lists_over n xs f)

-- a state that is listed once is counted once
pub same_yes : (x y : List ℕ) → x ≡ y → same_as x y ≡ 1
same_yes x y e = rw ((bytes_eq-Decides x y).1 e) refl

pub same_no : (x y : List ℕ) → (x ≡ y → ⊥) → same_as x y ≡ 0
same_no x y differ = rw (unequal x y differ) refl

unlisted : (xs : List (List ℕ)) (z : List ℕ) (f : List ℕ → ℕ) → (Holds xs z → ⊥) → over xs (λ y. same_as z y * f y) ≡ 0
unlisted [] z f out = refl
unlisted (x ∷ xs) z f out =
    let here = same_no z x (λ e. out (inl e)) in
    let rest = unlisted xs z f (λ h. out (inr h)) in
    rw (here, rest, zero-mul (f x)) refl

pub listed_once : (xs : List (List ℕ)) → Distinct xs → (z : List ℕ) (f : List ℕ → ℕ) → Holds xs z → over xs (λ y. same_as z y * f y) ≡ f z
listed_once [] once z f h = absurd h
listed_once (x ∷ xs) once z f (inl e) =
    let here = same_yes z x e in
    let rest = unlisted xs z f (λ h. once.0 (subst (Holds xs) e h)) in
    let value = ap f e in
    rw (here, rest) (omega arith)
listed_once (x ∷ xs) once z f (inr h) =
    let differ : z ≡ x → ⊥ = λ e. once.0 (subst (Holds xs) e h) in
    let here = same_no z x differ in
    let rest = listed_once xs once.1 z f h in
    rw (here, rest) (omega arith)
