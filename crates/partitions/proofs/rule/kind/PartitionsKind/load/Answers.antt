use Rattle.std.proofs.Common.{◌≡◌, ◌<◌, ◌≤◌, length, get_or, arith, below_more, rules}
use Rattle.lattice.specs.Grid.{cell_count}
use Rattle.partitions.specs.Heights.{highest, partitions_meaning}
use Rattle.partitions.specs.Partitions.{partitions_extent}
use Rattle.partitions.specs.Laws.{first_bad, lawful_from}
use Rattle.lattice.proofs.Loads.{load_lawful, load_unlawful}
use Rattle.partitions.proofs.rule.kind.PartitionsKind.load.Goals as goal

pub returns-then-height-highest-clause-answers : goal.returns-then-height-highest-clause-answers
returns-then-height-highest-clause-answers c =
    let e = partitions_extent c.args.self.now in
    let heights = c.in_ok-heights.heights.now in
    let i = c.loop-cell.cell in
    let long : length heights ≡ cell_count e = search rules in
    let within : i < length heights = omega arith in
    let bad : highest e heights i < get_or heights i 0 = omega arith in
    load_unlawful (partitions_meaning e) e _ _ heights c.in_ok-heights.ensures i (first_bad e heights i long within c.loop-cell.invariant bad)

pub loop-cell-preserved : goal.loop-cell-preserved
loop-cell-preserved c =
    let e = partitions_extent c.args.self.now in
    let heights = c.in_ok-heights.heights.now in
    below_more (λ j. get_or heights j 0 ≤ highest e heights j) c.loop-cell.cell c.loop-cell.invariant (omega arith)

pub returns-clause-answers : goal.returns-clause-answers
returns-clause-answers c =
    let e = partitions_extent c.args.self.now in
    let heights = c.in_ok-heights.heights.now in
    let long : length heights ≡ cell_count e = search rules in
    load_lawful (partitions_meaning e) e _ _ heights c.in_ok-heights.ensures (lawful_from e heights long (search rules))
