-- Heights that never rise along a row or down a column, and what raising or lowering one of them leaves.
use Rattle.std.specs.Prelude.{◌≡◌, ℕ, zero, suc, ◌+◌, ◌-◌, ◌<◌, ◌≤◌, min, cond, List, [], ◌∷◌, length, replicate, Some, None, Option, nat_lt, slice_index, slice_set, refl}
use Rattle.std.proofs.Common.{⊎_elim, ap, ap₂, subst, ◌∙◌, le_refl, le_trans, arith}
use Rattle.std.proofs.lemmas.List.{get_or_past, get_or-replicate, get_or-set_other, get_or-set_same, length-replicate, set-get_or, set-set}
use Rattle.std.proofs.lemmas.Bool.{cases_eq, cases_lt}
use Rattle.std.proofs.lemmas.Bool.Decides.{nat_tests}
use Rattle.lattice.specs.Grid.{Extent, cell_count}
use Rattle.lattice.specs.Orders.{cellwise}
use Rattle.lattice.proofs.Cells.{cellwise_set, positive_within}
use Rattle.partitions.specs.Heights.{Falling, cell_above, cell_below, cell_left, cell_right, height_or, highest, lowest}
use Rattle.partitions.specs.Sides.{above_before, above_of_below, below_of_above, left_before, left_of_right, right_of_left}

-- the height at a cell that may be missing
height_same : (d : ℕ) (x y : List ℕ) (o : Option ℕ) → ((j : ℕ) → o ≡ Some j → slice_index x j ≡ slice_index y j) → height_or d x o ≡ height_or d y o
height_same d x y None same = refl
height_same d x y (Some j) same = same j refl

height_rises : (d : ℕ) (x y : List ℕ) (o : Option ℕ) → cellwise x y → height_or d x o ≤ height_or d y o
height_rises d x y None below = le_refl d
height_rises d x y (Some j) below = below j

height_from : (d v : ℕ) (x : List ℕ) (o : Option ℕ) → v ≤ d → ((j : ℕ) → o ≡ Some j → v ≤ slice_index x j) → v ≤ height_or d x o
height_from d v x None h each = h
height_from d v x (Some j) h each = each j refl

height_upto : (v : ℕ) (x : List ℕ) (o : Option ℕ) → ((j : ℕ) → o ≡ Some j → slice_index x j ≤ v) → height_or 0 x o ≤ v
height_upto v x None each = omega arith
height_upto v x (Some j) each = each j refl

height_at : (d : ℕ) (x : List ℕ) (o : Option ℕ) (j : ℕ) → o ≡ Some j → height_or d x o ≡ slice_index x j
height_at d x o j at = ap (height_or d x) at

-- the value that was written, or 0 past the end
set_at_most : (x : List ℕ) (i v : ℕ) → slice_index (slice_set x i v) i ≤ v
set_at_most [] i v = omega arith
set_at_most (a ∷ x) zero v = le_refl v
set_at_most (a ∷ x) (suc i) v = set_at_most x i v

-- a list is below itself with one value raised, and as it was where the old value is written again
set_raises : (x : List ℕ) (i v : ℕ) → slice_index x i ≤ v → cellwise x (slice_set x i v)
set_raises x i v h = subst (λ (z : List ℕ). cellwise z (slice_set x i v)) (set-get_or x i 0) (cellwise_set x x i (slice_index x i) v refl h (λ k. le_refl _))

pub set_back : (x : List ℕ) (i v : ℕ) → slice_set (slice_set x i v) i (slice_index x i) ≡ x
set_back x i v = set-set x i v (slice_index x i) ∙ set-get_or x i 0

-- two heights in order stay so when each moves where it may
pub raises_order : (a b m n : ℕ) → a ≤ b → m ≤ n → cond (nat_lt a m) (a + 1) a ≤ cond (nat_lt b n) (b + 1) b
raises_order a b m n h k = grind (arith, nat_tests)

pub lowers_order : (a b m n : ℕ) → a ≤ b → m ≤ n → cond (nat_lt m a) (a - 1) a ≤ cond (nat_lt n b) (b - 1) b
lowers_order a b m n h k = grind (arith, nat_tests)

module _ (e : Extent) where
  pub highest_rises : (x y : List ℕ) (i : ℕ) → cellwise x y → highest e x i ≤ highest e y i
  highest_rises x y i below =
      let left = height_rises e.largest x y (cell_left e i) below in
      let above = height_rises e.largest x y (cell_above e i) below in
      omega arith

  pub lowest_rises : (x y : List ℕ) (i : ℕ) → cellwise x y → lowest e x i ≤ lowest e y i
  lowest_rises x y i below =
      let right = height_rises 0 x y (cell_right e i) below in
      let under = height_rises 0 x y (cell_below e i) below in
      omega arith

  -- only the heights before a cell decide how high it may be
  pub highest_same : (x y : List ℕ) (i : ℕ) → ((j : ℕ) → j < i → slice_index x j ≡ slice_index y j) → highest e x i ≡ highest e y i
  highest_same x y i same =
      ap₂ (λ (l a : ℕ). min e.largest (min l a))
      (height_same e.largest x y (cell_left e i) (λ j at. same j (left_before e i j at)))
      (height_same e.largest x y (cell_above e i) (λ j at. same j (above_before e i j at)))

  highest_from : (x : List ℕ) (i v : ℕ) → v ≤ e.largest → ((j : ℕ) → cell_left e i ≡ Some j → v ≤ slice_index x j) → ((j : ℕ) → cell_above e i ≡ Some j → v ≤ slice_index x j) → v ≤ highest e x i
  highest_from x i v h lefts aboves =
      let left = height_from e.largest v x (cell_left e i) h lefts in
      let above = height_from e.largest v x (cell_above e i) h aboves in
      omega arith

  highest_left : (x : List ℕ) (i j : ℕ) → cell_left e i ≡ Some j → highest e x i ≤ slice_index x j
  highest_left x i j at = let is = height_at e.largest x (cell_left e i) j at in omega arith

  highest_above : (x : List ℕ) (i j : ℕ) → cell_above e i ≡ Some j → highest e x i ≤ slice_index x j
  highest_above x i j at = let is = height_at e.largest x (cell_above e i) j at in omega arith

  lowest_right : (x : List ℕ) (i j : ℕ) → cell_right e i ≡ Some j → slice_index x j ≤ lowest e x i
  lowest_right x i j at = let is = height_at 0 x (cell_right e i) j at in omega arith

  lowest_below : (x : List ℕ) (i j : ℕ) → cell_below e i ≡ Some j → slice_index x j ≤ lowest e x i
  lowest_below x i j at = let is = height_at 0 x (cell_below e i) j at in omega arith

  -- what is written into a cell does not change how high or low it may be
  pub highest_set : (x : List ℕ) (i v : ℕ) → highest e (slice_set x i v) i ≡ highest e x i
  highest_set x i v = highest_same (slice_set x i v) x i (λ j h. get_or-set_other x i j v 0 (λ same. omega arith))

  right_upto : (x : List ℕ) (i v j : ℕ) → Falling e x → cell_right e i ≡ Some j → slice_index (slice_set x i v) j ≤ slice_index x i
  right_upto x i v j falling at =
      let back = left_of_right e i j at in
      let after = left_before e j i back in
      let kept = get_or-set_other x i j v 0 (λ same. omega arith) in
      omega (arith, falling j, highest_left x j i back)

  below_upto : (x : List ℕ) (i v j : ℕ) → Falling e x → cell_below e i ≡ Some j → slice_index (slice_set x i v) j ≤ slice_index x i
  below_upto x i v j falling at =
      let back = above_of_below e i j at in
      let after = above_before e j i back in
      let kept = get_or-set_other x i j v 0 (λ same. omega arith) in
      omega (arith, falling j, highest_above x j i back)

  pub lowest_set : (x : List ℕ) (i v : ℕ) → Falling e x → lowest e (slice_set x i v) i ≤ slice_index x i
  lowest_set x i v falling =
      let right = height_upto (slice_index x i) (slice_set x i v) (cell_right e i) (λ j. right_upto x i v j falling) in
      let under = height_upto (slice_index x i) (slice_set x i v) (cell_below e i) (λ j. below_upto x i v j falling) in
      omega arith

  -- one height for all cells
  level_fits : (n v i : ℕ) → v ≤ e.largest → i < n → v ≤ highest e (replicate n v) i
  level_fits n v i h k =
      highest_from (replicate n v) i v h
      (λ j at. let before = left_before e i j at in omega (arith, get_or-replicate n j v 0 (omega arith)))
      (λ j at. let before = above_before e i j at in omega (arith, get_or-replicate n j v 0 (omega arith)))

  pub level_falling : (n v : ℕ) → v ≤ e.largest → Falling e (replicate n v)
  level_falling n v h i =
      ⊎_elim
      (λ (k : i < n). omega (arith, get_or-replicate n i v 0 k, level_fits n v i h k))
      (λ (k : n ≤ i). omega (arith, get_or_past (replicate n v) i 0 (omega (arith, length-replicate {A = ℕ} n v))))
      (cases_lt i n)

  -- one height raised or lowered where it may be
  pub raised_falling : (x : List ℕ) (i : ℕ) → Falling e x → slice_index x i < highest e x i → Falling e (slice_set x i (slice_index x i + 1))
  raised_falling x i falling h k =
      let v = slice_index x i + 1 in
      let more = highest_rises x (slice_set x i v) k (set_raises x i v (omega arith)) in
      ⊎_elim
      (λ (same : k ≡ i). let here = set_at_most x i v in rw same (omega (arith, highest_set x i v)))
      (λ (other : k ≡ i → ⊥). omega (arith, get_or-set_other x i k v 0 other, falling k))
      (cases_eq k i)

  beside_lowered : (x : List ℕ) (i j v : ℕ) → lowest e x i < slice_index x i → v ≤ slice_index x j → (j ≡ i → v ≤ lowest e x i) → v ≤ slice_index (slice_set x i (slice_index x i - 1)) j
  beside_lowered x i j v h low at =
      ⊎_elim
      (λ (same : j ≡ i). rw same (omega (arith, at same, get_or-set_same x i (slice_index x i - 1) 0 (positive_within x i (omega arith)))))
      (λ (other : j ≡ i → ⊥). omega (arith, get_or-set_other x i j (slice_index x i - 1) 0 other))
      (cases_eq j i)

  other_fits : (x : List ℕ) (i k : ℕ) → k < cell_count e → Falling e x → lowest e x i < slice_index x i → slice_index x k ≤ highest e (slice_set x i (slice_index x i - 1)) k
  other_fits x i k within falling h =
      highest_from (slice_set x i (slice_index x i - 1)) k (slice_index x k) (omega (arith, falling k))
      (λ j at. beside_lowered x i j (slice_index x k) h (le_trans (falling k) (highest_left x k j at)) (λ same. lowest_right x i k (right_of_left e k i (at ∙ ap Some same))))
      (λ j at. beside_lowered x i j (slice_index x k) h (le_trans (falling k) (highest_above x k j at)) (λ same. lowest_below x i k (below_of_above e k i within (at ∙ ap Some same))))

  pub lowered_falling : (x : List ℕ) (i : ℕ) → length x ≡ cell_count e → Falling e x → lowest e x i < slice_index x i → Falling e (slice_set x i (slice_index x i - 1))
  lowered_falling x i long falling h k =
      let v = slice_index x i - 1 in
      let inside : k < length x → slice_index x k ≤ highest e (slice_set x i v) k = λ l. other_fits x i k (omega arith) falling h in
      let outside : length x ≤ k → slice_index x k ≤ highest e (slice_set x i v) k = λ l. omega (arith, get_or_past x k 0 l) in
      ⊎_elim
      (λ (same : k ≡ i). let here = set_at_most x i v in rw same (omega (arith, highest_set x i v, falling i)))
      (λ (other : k ≡ i → ⊥). rw (get_or-set_other x i k v 0 other) (⊎_elim inside outside (cases_lt k (length x))))
      (cases_eq k i)
