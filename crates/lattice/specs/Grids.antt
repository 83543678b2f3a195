-- What a grid of bytes stands for.
use Rattle.std.specs.Prelude.{ℕ, List, vec_items}
use Rattle.lattice.specs.Grid.{Extent}
use Rattle.lattice.specs.Shapes.{extent_of}
use Rattle.lattice.specs.declared.grid.Grid.{Grid}

abbrev pub grid_cells : Grid → List ℕ
grid_cells g = vec_items g.cells

abbrev pub grid_extent : Grid → Extent
grid_extent g = extent_of g.shape
