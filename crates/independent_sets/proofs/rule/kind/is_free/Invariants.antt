use Rattle.std.proofs.Common.{◌≡◌, ℕ, get_or}
use Rattle.lattice.proofs.Neighbours.{seen}
use Rattle.lattice.specs.Kind.{Holds}
use Rattle.lattice.specs.Shapes.{extent_of}
use Rattle.independent_sets.proofs.rule.kind.is_free.Given as goal

abbrev pub invariant-loop-shift : goal.invariant-loop-shift
invariant-loop-shift l = (j : ℕ) → Holds (seen (extent_of l.shape) l.cell l.shift-index) j → get_or l.cells j 0 ≡ 0
