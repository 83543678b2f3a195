use Rattle.std.proofs.Common.{refl}
use Rattle.lattice.specs.Lists.{value_lists}
use Rattle.partitions.proofs.rule.Partitions.two_by_two_with_cap_one.Goals as goal

pub returns : goal.returns
unfolding value_lists
returns c = rw c.new.ensures (refl, refl)
