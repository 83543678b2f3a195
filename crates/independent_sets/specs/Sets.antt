-- What the values of the code stand for.
use Rattle.std.specs.Prelude.{◌≡◌, ℕ, List, length}
use Rattle.refusal.specs.Refusals.{Answer, given, refused}
use Rattle.lattice.specs.Grid.{Extent}
use Rattle.lattice.specs.Grids.{grid_cells, grid_extent}
use Rattle.lattice.specs.Shapes.{extent_of}
use Rattle.independent_sets.specs.Independent.{independent_sets}
use Rattle.independent_sets.specs.declared.state.IndependentSet.{IndependentSet}
use Rattle.independent_sets.specs.declared.rule.IndependentSets.{IndependentSets}

abbrev pub rule_extent : IndependentSets → Extent
rule_extent k = extent_of k.shape

abbrev pub state_cells : IndependentSet → List ℕ
state_cells s = grid_cells s.grid

abbrev pub state_extent : IndependentSet → Extent
state_extent s = grid_extent s.grid

-- The rule for 2 by 2 has seven lawful states: the empty set, four of one cell, and two of two.
abbrev pub SevenStates : Answer Extent → Type 0
SevenStates (given e) = (e ≡ record { rows = 2; columns = 2; largest = 1 }) × (length (independent_sets e).states ≡ 7)
SevenStates (refused c) = ⊥
