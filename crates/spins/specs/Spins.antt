-- What the values of the code stand for.
use Rattle.std.specs.Prelude.{ℕ, List}
use Rattle.lattice.specs.Grid.{Extent}
use Rattle.lattice.specs.Grids.{grid_cells, grid_extent}
use Rattle.lattice.specs.Shapes.{extent_of}
use Rattle.spins.specs.declared.thresholds.Thresholds.{Thresholds}
use Rattle.spins.specs.declared.state.SpinGrid.{SpinGrid}
use Rattle.spins.specs.declared.rule.Spins.{Spins}

abbrev pub table_of : Thresholds → List ℕ
table_of t = t.values

abbrev pub spins_extent : Spins → Extent
spins_extent k = extent_of k.shape

abbrev pub spins_table : Spins → List ℕ
spins_table k = table_of k.thresholds

abbrev pub spin_cells : SpinGrid → List ℕ
spin_cells s = grid_cells s.grid

abbrev pub spin_extent : SpinGrid → Extent
spin_extent s = grid_extent s.grid

abbrev pub rule_parts : Spins → Extent × List ℕ
rule_parts k = (spins_extent k, spins_table k)
