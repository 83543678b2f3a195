use Rattle.std.proofs.Common.{ℕ, ◌<◌, ◌≤◌, get_or}
use Rattle.partitions.specs.Heights.{highest}
use Rattle.partitions.specs.Partitions.{partitions_extent}
use Rattle.partitions.proofs.rule.kind.PartitionsKind.load.Given as goal

abbrev pub invariant-loop-cell : goal.invariant-loop-cell
invariant-loop-cell l = (j : ℕ) → j < l.cell → get_or l.heights j 0 ≤ highest (partitions_extent l.self) l.heights j
