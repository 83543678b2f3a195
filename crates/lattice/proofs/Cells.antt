-- Lists of cells whose values keep below a bound, and the order cell by cell.
use Rattle.std.proofs.Common.{◌≡◌, ℕ, zero, suc, ◌-◌, ◌<◌, ◌≤◌, Bool, true, false, cond, ltb, Some, List, [], ◌∷◌, ◌++◌, length, get_or, take, set, replicate, sym, ap, ◌∙◌, ⊎_elim, le_refl, le_trans, arith}
use Rattle.std.specs.List.{AllByRecursion, position, position_or_len}
use Rattle.std.proofs.lemmas.Bool.{cases_Bool, cases_lt, cond-true, ltb-false}
use Rattle.std.proofs.lemmas.List.Sums.{fails_before_first}
use Rattle.std.proofs.lemmas.List.{ext_get_or, get_or-take, get_or_past, length-append, length-replicate, length-take-le}
use Rattle.std.proofs.ByRecursion.{All-from_get_or}
use Rattle.lattice.specs.Kind.{Holds, Ordered}
use Rattle.lattice.specs.Orders.{cellwise}

-- a value above 0 is one of the list
pub positive_within : (x : List ℕ) (i : ℕ) → 0 < get_or x i 0 → i < length x
positive_within x i h = ⊎_elim (λ (k : i < length x). k) (λ (past : length x ≤ i). absurd (omega (arith, get_or_past x i 0 past))) (cases_lt i (length x))

-- where no value is found above the bound
pub none_above : (x : List ℕ) (b : ℕ) → ((i : ℕ) → position (ltb b) x ≡ Some i → ⊥) → (k : ℕ) → get_or x k 0 ≤ b
none_above x b none k =
    let first = position_or_len (ltb b) x in
    ⊎_elim
    (λ (found : ltb first (length x) ≡ true). absurd (none first (cond-true _ _ _ found)))
    (λ (not_found : ltb first (length x) ≡ false).
    ⊎_elim
    (λ (h : k < length x). ltb-false b (get_or x k 0) (fails_before_first (ltb b) x k 0 (let far = ltb-false first (length x) not_found in omega arith)))
    (λ (h : length x ≤ k). rw (get_or_past x k 0 h) (omega arith))
    (cases_lt k (length x)))
    (cases_Bool (ltb first (length x)))

-- 1 or 0
pub bit_upto : (t : Bool) → cond t 1 0 ≤ 1
bit_upto true = omega arith
bit_upto false = omega arith

pub replicate_upto : (n v b i : ℕ) → v ≤ b → get_or (replicate n v) i 0 ≤ b
replicate_upto zero v b i h = omega arith
replicate_upto (suc n) v b zero h = h
replicate_upto (suc n) v b (suc i) h = replicate_upto n v b i h

pub set_upto : (x : List ℕ) (i v b : ℕ) → ((k : ℕ) → get_or x k 0 ≤ b) → v ≤ b → (j : ℕ) → get_or (set x i v) j 0 ≤ b
set_upto [] i v b each h j = omega arith
set_upto (y ∷ x) zero v b each h zero = h
set_upto (y ∷ x) zero v b each h (suc j) = each (suc j)
set_upto (y ∷ x) (suc i) v b each h zero = each zero
set_upto (y ∷ x) (suc i) v b each h (suc j) = set_upto x i v b (λ k. each (suc k)) h j

pub append_upto : (x y : List ℕ) (b : ℕ) → ((k : ℕ) → get_or x k 0 ≤ b) → ((k : ℕ) → get_or y k 0 ≤ b) → (k : ℕ) → get_or (x ++ y) k 0 ≤ b
append_upto [] y b each more k = more k
append_upto (a ∷ x) y b each more zero = each zero
append_upto (a ∷ x) y b each more (suc k) = append_upto x y b (λ j. each (suc j)) more k

pub take_upto : (x : List ℕ) (i b : ℕ) → ((j : ℕ) → j < i → get_or x j 0 ≤ b) → (k : ℕ) → get_or (take i x) k 0 ≤ b
take_upto x zero b each k = omega arith
take_upto [] (suc i) b each k = omega arith
take_upto (a ∷ x) (suc i) b each zero = each zero (omega arith)
take_upto (a ∷ x) (suc i) b each (suc k) = take_upto x i b (λ j h. each (suc j) (omega arith)) k

-- the first cells of a list, and as many zeros as it has cells left
abbrev pub front : List ℕ → ℕ → List ℕ
front x i = take i x ++ replicate (length x - i) 0

pub filled_up : (x : List ℕ) (i : ℕ) → i ≤ length x → length (front x i) ≡ length x
filled_up x i h = rw (length-append (take i x) (replicate (length x - i) 0), length-take-le i x h, length-replicate {A = ℕ} (length x - i) 0) (omega arith)

-- a list that begins as another has its values there
pub begins_same : (x y : List ℕ) (n : ℕ) → n ≤ length x → take (length (take n x)) y ≡ take n x → (i : ℕ) → i < n → get_or y i 0 ≡ get_or x i 0
begins_same x y n long same i h =
    let size = length-take-le n x long in
    sym (get_or-take n y i 0 h) ∙ ap (λ (l : List ℕ). get_or l i 0) (rw size at same) ∙ get_or-take n x i 0 h

pub all_upto : (x : List ℕ) (b : ℕ) → ((k : ℕ) → get_or x k 0 ≤ b) → AllByRecursion (λ v. v ≤ b) x
all_upto x b each = All-from_get_or (λ v. v ≤ b) x 0 (λ i h. each i)

pub upto_all : (x : List ℕ) (b : ℕ) → AllByRecursion (λ v. v ≤ b) x → (k : ℕ) → get_or x k 0 ≤ b
upto_all [] b all k = omega arith
upto_all (v ∷ x) b all zero = all.0
upto_all (v ∷ x) b all (suc k) = upto_all x b all.1 k

-- the same change keeps the order where the new values keep it
pub cellwise_set : (x y : List ℕ) (i v w : ℕ) → length x ≡ length y → v ≤ w → cellwise x y → cellwise (set x i v) (set y i w)
cellwise_set [] [] i v w e h below j = omega arith
cellwise_set [] (b ∷ y) i v w e h below j = absurd (omega arith)
cellwise_set (a ∷ x) [] i v w e h below j = absurd (omega arith)
cellwise_set (a ∷ x) (b ∷ y) zero v w e h below zero = h
cellwise_set (a ∷ x) (b ∷ y) zero v w e h below (suc j) = below (suc j)
cellwise_set (a ∷ x) (b ∷ y) (suc i) v w e h below zero = below zero
cellwise_set (a ∷ x) (b ∷ y) (suc i) v w e h below (suc j) = cellwise_set x y i v w (omega arith) h (λ k. below (suc k)) j

pub cellwise_antisymmetric : (x y : List ℕ) → length x ≡ length y → cellwise x y → cellwise y x → x ≡ y
cellwise_antisymmetric x y e low high = ext_get_or 0 x y e (λ i h. let a = low i in let b = high i in omega arith)

-- the list of one value is below every list of its length and above it
pub below_replicate : (x : List ℕ) (b : ℕ) → ((k : ℕ) → get_or x k 0 ≤ b) → cellwise x (replicate (length x) b)
below_replicate [] b each i = omega arith
below_replicate (a ∷ x) b each zero = each zero
below_replicate (a ∷ x) b each (suc i) = below_replicate x b (λ k. each (suc k)) i

pub above_zeros : (n : ℕ) (x : List ℕ) → cellwise (replicate n 0) x
above_zeros n x i = let z = replicate_upto n 0 0 i (omega arith) in omega arith

-- lists of one length are ordered by their cells
pub cellwise_ordered : (states : List (List ℕ)) (bottom top : List ℕ) (step : ℕ → List ℕ → List ℕ) (n : ℕ) → ((x : List ℕ) → Holds states x → length x ≡ n) → Ordered (record { states = states; below = cellwise; bottom = bottom; top = top; step = step })
cellwise_ordered states bottom top step n long = record {
  reflexive = λ x h i. le_refl _;
  antisymmetric = λ x y h k low high. cellwise_antisymmetric x y (long x h ∙ sym (long y k)) low high;
  transitive = λ x y z h k l low high i. le_trans (low i) (high i);
}
