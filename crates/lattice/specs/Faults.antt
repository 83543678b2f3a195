-- The number of each refusal of a rule or a state, with the values that come with it.
use Rattle.std.specs.Prelude.{[], ◌∷◌}
use Rattle.refusal.specs.Refusals.{Refusal, numbered, no_memory}
use Rattle.lattice.specs.declared.fault.ShapeFault.{ShapeFault}
use Rattle.lattice.specs.declared.fault.ShapeFault.TheVariants.{Side, Cap}
use Rattle.lattice.specs.declared.fault.StateFault.{StateFault}
use Rattle.lattice.specs.declared.fault.StateFault.TheVariants.{Foreign, NoCell, FewCells, Unlawful, Memory}

abbrev pub shape_refusal : ShapeFault → Refusal
shape_refusal Side = numbered 1 []
shape_refusal Cap = numbered 2 []

abbrev pub state_refusal : StateFault → Refusal
state_refusal Foreign = numbered 5 []
state_refusal NoCell = numbered 6 []
state_refusal FewCells = numbered 37 []
state_refusal (Unlawful cell) = numbered 39 (cell ∷ [])
state_refusal Memory = no_memory
