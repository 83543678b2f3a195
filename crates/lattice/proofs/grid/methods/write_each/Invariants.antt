use Rattle.std.proofs.Common.{ℕ, ◌<◌, get_or}
use Rattle.lattice.proofs.grid.methods.write_each.Given as goal

abbrev pub invariant-loop-i : goal.invariant-loop-i
invariant-loop-i g l = (k : ℕ) → k < l.i → goal.F-post g l.value_of k (get_or l.cells k 0)
