-- What an independent set of a grid means: cells 0 (empty) and 1 (occupied), and the step by a word.
use Rattle.std.specs.Prelude.{ℕ, ◌+◌, ◌/◌, ◌%◌, ◌≤◌, Bool, cond, ◌&&◌, ◌||◌, List, map, length, MatchBool, filter, ◌==◌, nat_eq, slice_index, slice_set}
use Rattle.std.specs.List.{range_with_len, list_all}
use Rattle.lattice.specs.Words.{middle_level}
use Rattle.lattice.specs.Counts.{two_way}
use Rattle.lattice.specs.Grid.{Extent, cell_count, neighbours}
use Rattle.lattice.specs.Kind.{Meaning}
use Rattle.lattice.specs.Lists.{value_lists}

-- All neighbours of the site are empty.
abbrev pub free : Extent → List ℕ → ℕ → Bool
free e x i = list_all (λ j. nat_eq (slice_index x j) 0) (neighbours e i)

-- No two neighbours are both occupied: each cell is empty, or else all its neighbours are.
abbrev pub independent : Extent → List ℕ → Bool
independent e x = list_all (λ i. (slice_index x i == 0) || free e x i) (range_with_len 0 (cell_count e))

-- A cell is white where its row and column add up to an even number, else black.
abbrev pub white : Extent → ℕ → Bool
white e i = (i / e.columns + i % e.columns) % 2 == 0

-- One state is at most another: on the white cells at most, on the black ones at least.
abbrev pub checkerwise : Extent → List ℕ → List ℕ → Type 0
checkerwise e x y = (i : ℕ) → MatchBool (white e i) (slice_index x i ≤ slice_index y i) (slice_index y i ≤ slice_index x i)

-- One value on the white cells, another on the black ones.
abbrev pub checkerboard : Extent → (on_white on_black : ℕ) → List ℕ
checkerboard e on_white on_black = map (λ i. cond (white e i) on_white on_black) (range_with_len 0 (cell_count e))

-- The site is occupied if all its neighbours are empty, else emptied.
abbrev pub fill : Extent → ℕ → List ℕ → List ℕ
fill e i x = slice_set x i (cond (free e x i) 1 0)

-- The site is emptied.
abbrev pub clear : ℕ → List ℕ → List ℕ
clear i x = slice_set x i 0

abbrev pub independent_sets : Extent → Meaning
independent_sets e = record {
  states = filter (independent e) (value_lists 1 (cell_count e));
  below = checkerwise e;
  bottom = checkerboard e 0 1;
  top = checkerboard e 1 0;
  step = two_way (fill e) clear middle_level (cell_count e);
}

-- The next cell after these may hold the value: it is 0, or it is 1 and its neighbours among them are empty.
abbrev pub may_follow : Extent → List ℕ → ℕ → Bool
may_follow e before v = v == 0 || (v == 1 && free e before (length before))
