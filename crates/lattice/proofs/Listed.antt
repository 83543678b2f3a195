-- `value_lists` names each list of its length and values, and each once; a test keeps that.
use Rattle.std.proofs.Common.{◌≡◌, ℕ, zero, suc, ◌+◌, ◌<◌, ◌≤◌, Bool, true, false, ◌⊎◌, List, [], ◌∷◌, ◌++◌, map, length, filter, sym, refl, ap, ◌∙◌, subst, inl, inr, ⊎_elim, arith}
use Rattle.std.proofs.lemmas.Bool.{cases_eq, cases_Bool}
use Rattle.std.specs.List.{range_with_len, flat_map, AllByRecursion}
use Rattle.lattice.specs.Kind.{Holds, Distinct}
use Rattle.lattice.specs.Lists.{value_lists}

pub holds_left : {X : Type 0} (xs ys : List X) (x : X) → Holds xs x → Holds (xs ++ ys) x
holds_left [] ys x h = absurd h
holds_left (y ∷ xs) ys x (inl e) = inl e
holds_left (y ∷ xs) ys x (inr h) = inr (holds_left xs ys x h)

pub holds_right : {X : Type 0} (xs ys : List X) (x : X) → Holds ys x → Holds (xs ++ ys) x
holds_right [] ys x h = h
holds_right (y ∷ xs) ys x h = inr (holds_right xs ys x h)

pub holds_cases : {X : Type 0} (xs ys : List X) (x : X) → Holds (xs ++ ys) x → Holds xs x ⊎ Holds ys x
holds_cases [] ys x h = inr h
holds_cases (y ∷ xs) ys x (inl e) = inl (inl e)
holds_cases (y ∷ xs) ys x (inr h) = ⊎_elim (λ a. inl (inr a)) inr (holds_cases xs ys x h)

distinct_append : (xs ys : List (List ℕ)) → Distinct xs → Distinct ys → ((x : List ℕ) → Holds xs x → Holds ys x → ⊥) → Distinct (xs ++ ys)
distinct_append [] ys d e apart = e
distinct_append (x ∷ xs) ys d e apart =
    (λ h. ⊎_elim d.0 (apart x (inl refl)) (holds_cases xs ys x h), distinct_append xs ys d.1 e (λ z a b. apart z (inr a) b))

-- putting one value in front of each list
holds_front : (v : ℕ) (xs : List (List ℕ)) (x : List ℕ) → Holds xs x → Holds (map (λ y. v ∷ y) xs) (v ∷ x)
holds_front v [] x h = absurd h
holds_front v (y ∷ xs) x (inl e) = inl (ap (λ (z : List ℕ). v ∷ z) e)
holds_front v (y ∷ xs) x (inr h) = inr (holds_front v xs x h)

front_parts : (v : ℕ) (xs : List (List ℕ)) (z : List ℕ) → Holds (map (λ y. v ∷ y) xs) z → (x : List ℕ) × (z ≡ v ∷ x) × Holds xs x
front_parts v [] z h = absurd h
front_parts v (y ∷ xs) z (inl e) = (y, e, inl refl)
front_parts v (y ∷ xs) z (inr h) = let p = front_parts v xs z h in (p.0, p.1, inr p.2)

same_tail : (v w : ℕ) (x y : List ℕ) → v ∷ x ≡ w ∷ y → x ≡ y
same_tail v w x y e = cc

same_head : (v w : ℕ) (x y : List ℕ) → v ∷ x ≡ w ∷ y → v ≡ w
same_head v w x y e = cc

distinct_front : (v : ℕ) (xs : List (List ℕ)) → Distinct xs → Distinct (map (λ y. v ∷ y) xs)
distinct_front v [] d = tt
distinct_front v (x ∷ xs) d =
    (λ h. let p = front_parts v xs (v ∷ x) h in d.0 (subst (Holds xs) (sym (same_tail v v x p.0 p.1)) p.2), distinct_front v xs d.1)

-- putting each of some values in front of each list
abbrev fronts : List (List ℕ) → List ℕ → List (List ℕ)
fronts xs vs = flat_map (λ v. map (λ x. v ∷ x) xs) vs

holds_fronts : (xs : List (List ℕ)) (a n v : ℕ) (x : List ℕ) → Holds xs x → a ≤ v → v < a + n → Holds (fronts xs (range_with_len a n)) (v ∷ x)
holds_fronts xs a zero v x h low high = absurd (omega arith)
holds_fronts xs a (suc n) v x h low high =
    ⊎_elim
    (λ (e : v ≡ a). holds_left (map (λ y. a ∷ y) xs) (fronts xs (range_with_len (a + 1) n)) (v ∷ x) (rw e (holds_front a xs x h)))
    (λ (d : v ≡ a → ⊥). holds_right (map (λ y. a ∷ y) xs) (fronts xs (range_with_len (a + 1) n)) (v ∷ x) (holds_fronts xs (a + 1) n v x h (omega arith) (omega arith)))
    (cases_eq v a)

fronts_parts : (xs : List (List ℕ)) (a n : ℕ) (z : List ℕ) → Holds (fronts xs (range_with_len a n)) z → (v : ℕ) × (x : List ℕ) × (z ≡ v ∷ x) × Holds xs x × (a ≤ v) × (v < a + n)
fronts_parts xs a zero z h = absurd h
fronts_parts xs a (suc n) z h =
    ⊎_elim
    (λ m. let p = front_parts a xs z m in (a, p.0, p.1, p.2, omega arith, omega arith))
    (λ m. let p = fronts_parts xs (a + 1) n z m in (p.0, p.1, p.2, p.3, omega (arith, p.4), omega (arith, p.5)))
    (holds_cases (map (λ y. a ∷ y) xs) (fronts xs (range_with_len (a + 1) n)) z h)

distinct_fronts : (xs : List (List ℕ)) (a n : ℕ) → Distinct xs → Distinct (fronts xs (range_with_len a n))
distinct_fronts xs a zero d = tt
distinct_fronts xs a (suc n) d =
    distinct_append (map (λ y. a ∷ y) xs) (fronts xs (range_with_len (a + 1) n)) (distinct_front a xs d) (distinct_fronts xs (a + 1) n d)
    (λ z here there.
    let p = front_parts a xs z here in
    let q = fronts_parts xs (a + 1) n z there in
    let e : a ≡ q.0 = same_head a q.0 p.0 q.1 (sym p.1 ∙ q.2) in
    omega (arith, e, q.4))

-- the list names every list of n values from 0 to m
pub listed : (m : ℕ) (x : List ℕ) → AllByRecursion (λ v. v ≤ m) x → Holds (value_lists m (length x)) x
unfolding value_lists
listed m [] all = inl refl
listed m (v ∷ x) all = holds_fronts (value_lists m (length x)) 0 (suc m) v x (listed m x all.1) (omega arith) (omega (arith, all.0))

-- and no other
pub listed_parts : (m n : ℕ) (x : List ℕ) → Holds (value_lists m n) x → (length x ≡ n) × AllByRecursion (λ v. v ≤ m) x
unfolding value_lists
listed_parts m zero x (inl e) = rw e (refl, tt)
listed_parts m zero x (inr h) = absurd h
listed_parts m (suc n) x h =
    let p = fronts_parts (value_lists m n) 0 (suc m) x h in
    let q = listed_parts m n p.1 p.3 in
    rw p.2 (ap suc q.0, (omega (arith, p.5), q.1))

pub listed_once : (m n : ℕ) → Distinct (value_lists m n)
unfolding value_lists
listed_once m zero = (λ h. h, tt)
listed_once m (suc n) = distinct_fronts (value_lists m n) 0 (suc m) (listed_once m n)

-- what a test keeps of a list
pub kept_holds : (test : List ℕ → Bool) (xs : List (List ℕ)) (x : List ℕ) → Holds xs x → test x ≡ true → Holds (filter test xs) x
kept_holds test [] x h t = absurd h
kept_holds test (y ∷ ys) x (inl e) t = let k : test y ≡ true = rw e at t in rw k (inl e)
kept_holds test (y ∷ ys) x (inr h) t =
    let rest = kept_holds test ys x h t in
    ⊎_elim (λ (k : test y ≡ true). rw k (inr rest)) (λ (k : test y ≡ false). rw k rest) (cases_Bool (test y))

pub kept_parts : (test : List ℕ → Bool) (xs : List (List ℕ)) (x : List ℕ) → Holds (filter test xs) x → Holds xs x × (test x ≡ true)
kept_parts test [] x h = absurd h
kept_parts test (y ∷ ys) x h =
    let rest : Holds (filter test ys) x → Holds (y ∷ ys) x × (test x ≡ true) = λ k. let p = kept_parts test ys x k in (inr p.0, p.1) in
    ⊎_elim
    (λ (k : test y ≡ true).
    let both : (x ≡ y) ⊎ Holds (filter test ys) x = rw k at h in
    ⊎_elim (λ e. (inl e, ap test e ∙ k)) rest both)
    (λ (k : test y ≡ false). rest (rw k at h))
    (cases_Bool (test y))

pub kept_once : (test : List ℕ → Bool) (xs : List (List ℕ)) → Distinct xs → Distinct (filter test xs)
kept_once test [] d = tt
kept_once test (y ∷ ys) d =
    let rest = kept_once test ys d.1 in
    ⊎_elim
    (λ (k : test y ≡ true). rw k (λ h. d.0 (kept_parts test ys y h).0, rest))
    (λ (k : test y ≡ false). rw k rest)
    (cases_Bool (test y))
