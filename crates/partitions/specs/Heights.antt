-- What a plane partition means: heights that never rise along a row or down a column, and the step by a word.
use Rattle.std.specs.Prelude.{ℕ, ◌+◌, ◌-◌, ◌≤◌, min, max, Bool, cond, List, replicate, pos, Some, None, filter, Option, nat_le, nat_lt, slice_index, slice_index_or, slice_set}
use Rattle.std.specs.List.{range_with_len, list_all}
use Rattle.lattice.specs.Counts.{two_way}
use Rattle.lattice.specs.Grid.{Extent, beside, cell_count, directions}
use Rattle.lattice.specs.Kind.{Meaning}
use Rattle.lattice.specs.Words.{middle_level}
use Rattle.lattice.specs.Lists.{value_lists}
use Rattle.lattice.specs.Orders.{cellwise}

-- The cells beside a cell, where they exist.
abbrev pub cell_above : Extent → ℕ → Option ℕ
cell_above e i = beside e i (slice_index_or directions 0 (pos 0, pos 0))

abbrev pub cell_below : Extent → ℕ → Option ℕ
cell_below e i = beside e i (slice_index_or directions 1 (pos 0, pos 0))

abbrev pub cell_left : Extent → ℕ → Option ℕ
cell_left e i = beside e i (slice_index_or directions 2 (pos 0, pos 0))

abbrev pub cell_right : Extent → ℕ → Option ℕ
cell_right e i = beside e i (slice_index_or directions 3 (pos 0, pos 0))

-- The height at a cell, or the other where there is no cell.
abbrev pub height_or : ℕ → List ℕ → Option ℕ → ℕ
height_or other x None = other
height_or other x (Some i) = slice_index x i

-- The largest height that a cell may have: the least of the cap and the heights to its left and above.
abbrev pub highest : Extent → List ℕ → ℕ → ℕ
highest e x i = min e.largest (min (height_or e.largest x (cell_left e i)) (height_or e.largest x (cell_above e i)))

-- The smallest height that a cell may have: the larger of those to its right and below, or 0.
abbrev pub lowest : Extent → List ℕ → ℕ → ℕ
lowest e x i = max (height_or 0 x (cell_right e i)) (height_or 0 x (cell_below e i))

-- No height is above the cap, or above the height to its left or the one above.
abbrev pub Falling : Extent → List ℕ → Type 0
Falling e x = (i : ℕ) → slice_index x i ≤ highest e x i

-- The same as a test of each cell.
abbrev pub falls : Extent → List ℕ → Bool
falls e x = list_all (λ i. nat_le (slice_index x i) (highest e x i)) (range_with_len 0 (cell_count e))

-- The site is raised by one where it is below the largest height that it may have, and lowered by one where it is above
-- the smallest.
abbrev pub raised : Extent → ℕ → List ℕ → List ℕ
raised e i x = cond (nat_lt (slice_index x i) (highest e x i)) (slice_set x i (slice_index x i + 1)) x

abbrev pub lowered : Extent → ℕ → List ℕ → List ℕ
lowered e i x = cond (nat_lt (lowest e x i) (slice_index x i)) (slice_set x i (slice_index x i - 1)) x

abbrev pub partitions_meaning : Extent → Meaning
partitions_meaning e = record {
  states = filter (falls e) (value_lists e.largest (cell_count e));
  below = cellwise;
  bottom = replicate (cell_count e) 0;
  top = replicate (cell_count e) e.largest;
  step = two_way (raised e) (lowered e) middle_level (cell_count e);
}
