use Rattle.std.proofs.Common.{refl}
use Rattle.lattice.specs.Lists.{value_lists}
use Rattle.independent_sets.proofs.rule.IndependentSets.two_by_two.Goals as goal

pub returns : goal.returns
unfolding value_lists
returns c = rw c.new.ensures (refl, refl)
