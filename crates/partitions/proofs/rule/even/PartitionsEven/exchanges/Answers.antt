use Rattle.std.proofs.Common.{mul-pos}
use Rattle.partitions.specs.Partitions.{partitions_extent}
use Rattle.partitions.specs.Laws.{exchanges}
use Rattle.partitions.proofs.rule.even.PartitionsEven.exchanges.Goals as goal

pub returns : goal.returns
returns c =
    let k = c.args.self.now in
    exchanges (partitions_extent k) (mul-pos k.shape.sided.0 k.shape.sided.2)
