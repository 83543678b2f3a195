use Rattle.std.proofs.Common.{◌≡◌, ℕ, ◌<◌, true, get_or, take}
use Rattle.independent_sets.specs.Independent.{may_follow}
use Rattle.independent_sets.specs.Sets.{rule_extent}
use Rattle.independent_sets.proofs.rule.kind.IndependentSetsKind.load.Given as goal

abbrev pub invariant-loop-cell : goal.invariant-loop-cell
invariant-loop-cell l = (j : ℕ) → j < l.cell → may_follow (rule_extent l.self) (take j l.cells) (get_or l.cells j 0) ≡ true
