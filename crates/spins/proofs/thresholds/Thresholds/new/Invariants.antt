use Rattle.std.proofs.Common.{◌≡◌, ◌-◌, ◌<◌, get_or}
use Rattle.spins.specs.Table.{Rises}
use Rattle.spins.proofs.thresholds.Thresholds.new.Given as goal

abbrev pub invariant-loop-index : goal.invariant-loop-index
invariant-loop-index l =
    Rises l.fn.values l.index × (0 < l.index → l.before ≡ get_or l.fn.values (l.index - 1) 0) × (l.index ≡ 0 → l.before ≡ 0)
