-- What a spin grid means: cells 0 (down) and 1 (up), and the step by a word.
use Rattle.std.specs.Prelude.{ℕ, ◌+◌, ◌-◌, cond, List, replicate, count_by, nat_eq, nat_lt, slice_index, slice_set}
use Rattle.lattice.specs.Grid.{Extent, cell_count, neighbours}
use Rattle.lattice.specs.Kind.{Meaning}
use Rattle.lattice.specs.Lists.{value_lists}
use Rattle.lattice.specs.Orders.{cellwise}
use Rattle.lattice.specs.Words.{site, level}

-- How many of these cells hold the value.
abbrev pub holding : List ℕ → ℕ → List ℕ → ℕ
holding x v places = count_by (λ i. nat_eq (slice_index x i) v) places

-- A neighbour that is up counts 1, one that is down -1; the index is their sum plus 4.
abbrev pub threshold_index : Extent → List ℕ → ℕ → ℕ
threshold_index e x i = 4 + holding x 1 (neighbours e i) - holding x 0 (neighbours e i)

-- The site goes up where the level lies below the threshold at the index.
abbrev pub new_spin : Extent → List ℕ → List ℕ → ℕ → ℕ → ℕ
new_spin e table x i l = cond (nat_lt l (slice_index table (threshold_index e x i))) 1 0

abbrev pub spins_meaning : Extent → List ℕ → Meaning
spins_meaning e table = record {
  states = value_lists 1 (cell_count e);
  below = cellwise;
  bottom = replicate (cell_count e) 0;
  top = replicate (cell_count e) 1;
  step = λ w x. slice_set x (site (cell_count e) w) (new_spin e table x (site (cell_count e) w) (level w));
}
