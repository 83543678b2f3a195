-- Fields read one after another.
use Rattle.std.proofs.Common.{◌≡◌, ℕ, suc, ◌+◌, ◌-◌, ◌<◌, ◌≤◌, List, [], ◌∷◌, ◌++◌, length, take, drop, Ok, Err, Result, refl, ap, arith}
use Rattle.std.proofs.lemmas.List.{append_assoc, append-nil, take_all}
use Rattle.task.specs.Fields.{at_end, number_due, numbers_due, with_it}
use Rattle.task.specs.declared.line.Expected.{Expected}

-- The numbers xs, and n more in these words.
abbrev pub behind : ℕ → List (List ℕ) → List ℕ → Result (List ℕ) Expected
behind n ws xs = with_it (numbers_due n ws) (λ ys. Ok (xs ++ ys))

same : (r : Result (List ℕ) Expected) → with_it r (λ ys. Ok ([] ++ ys)) ≡ r
same (Ok ys) = refl
same (Err e) = refl

pub behind_none : (n : ℕ) (ws : List (List ℕ)) → behind n ws [] ≡ numbers_due n ws
behind_none n ws = same (numbers_due n ws)

regroup : (xs : List ℕ) (x : ℕ) (r : Result (List ℕ) Expected) → with_it r (λ ys. Ok ((xs ++ x ∷ []) ++ ys)) ≡ with_it (with_it r (λ ys. Ok (x ∷ ys))) (λ ys. Ok (xs ++ ys))
regroup xs x (Ok ys) = ap (λ zs. Ok zs) (append_assoc xs (x ∷ []) ys)
regroup xs x (Err e) = refl

next : (n i : ℕ) → i < n → n - i ≡ suc (n - (i + 1))
next n i within = omega arith

pub behind_more : (n i x : ℕ) (ws vs : List (List ℕ)) (xs : List ℕ) → i < n → Ok x ≡ number_due ws → vs ≡ drop 1 ws → behind (n - (i + 1)) vs (xs ++ x ∷ []) ≡ behind (n - i) ws xs
unfolding numbers_due
behind_more n i x ws vs xs within e f = rw (next n i within, ← e, f) (regroup xs x (numbers_due (n - (i + 1)) (drop 1 ws)))

pub behind_stops : (n i : ℕ) (ws : List (List ℕ)) (xs : List ℕ) (e : Expected) → i < n → Err e ≡ number_due ws → Err e ≡ behind (n - i) ws xs
unfolding numbers_due
behind_stops n i ws xs e within stop = rw (next n i within, ← stop)

no_more : (n i : ℕ) → n ≤ i → n - i ≡ 0
no_more n i all = omega arith

all_read : (n i : ℕ) (ws : List (List ℕ)) (xs : List ℕ) (r : Result (Unit {0}) Expected) → n ≤ i → r ≡ at_end ws tt → with_it r (λ _. Ok xs) ≡ behind (n - i) ws xs
unfolding numbers_due
all_read n i [] xs r all e = rw (no_more n i all, e, append-nil)
all_read n i (w ∷ ws) xs r all e = rw (no_more n i all, e)

pub behind_all : (n i : ℕ) (ws : List (List ℕ)) (xs : List ℕ) → n ≤ i → length xs ≤ i → Ok tt ≡ at_end {A = Unit {0}} ws tt → Ok xs ≡ behind (n - i) ws (take i xs)
behind_all n i ws xs all long e = rw (take_all i xs long) (all_read n i ws xs (Ok tt) all e)

pub behind_ends : (n i : ℕ) (ws : List (List ℕ)) (xs : List ℕ) (e : Expected) → n ≤ i → Err e ≡ at_end {A = Unit {0}} ws tt → Err e ≡ behind (n - i) ws xs
behind_ends n i ws xs e all end = all_read n i ws xs (Err e) all end
