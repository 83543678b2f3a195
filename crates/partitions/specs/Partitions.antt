-- What the values of the code stand for.
use Rattle.std.specs.Prelude.{◌≡◌, ℕ, List, length}
use Rattle.refusal.specs.Refusals.{Answer, given, refused}
use Rattle.lattice.specs.Grid.{Extent}
use Rattle.lattice.specs.Grids.{grid_cells, grid_extent}
use Rattle.lattice.specs.Shapes.{extent_of}
use Rattle.partitions.specs.Heights.{partitions_meaning}
use Rattle.partitions.specs.declared.state.PlanePartition.{PlanePartition}
use Rattle.partitions.specs.declared.rule.Partitions.{Partitions}

abbrev pub partitions_extent : Partitions → Extent
partitions_extent k = extent_of k.shape

abbrev pub partition_cells : PlanePartition → List ℕ
partition_cells s = grid_cells s.grid

abbrev pub partition_extent : PlanePartition → Extent
partition_extent s = grid_extent s.grid

-- The rule for 2 by 2 with cap 1 has six lawful states.
abbrev pub SixStates : Answer Extent → Type 0
SixStates (given e) = (e ≡ record { rows = 2; columns = 2; largest = 1 }) × (length (partitions_meaning e).states ≡ 6)
SixStates (refused c) = ⊥
