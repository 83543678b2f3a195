use Rattle.std.proofs.Common.{◌≡◌, ℕ, List, ◌∙◌, ap₂, arith}
use Rattle.lattice.specs.Grid.{Extent}
use Rattle.partitions.specs.Heights.{highest}
use Rattle.partitions.specs.Partitions.{partition_cells, partition_extent}
use Rattle.partitions.specs.HeightsLemmas.{raised_falling}
use Rattle.partitions.proofs.state.PlanePartition.raise.Goals as goal

pub put-requires : goal.put-requires
put-requires c =
    let s = c.args.self.now in
    let bound : c.highest.result ≡ highest (partition_extent s) (partition_cells s) c.args.site = c.highest.ensures ∙ ap₂ (λ (e : Extent) (x : List ℕ). highest e x c.args.site) c.shape.ensures c.as_slice.ensures in
    rw c.get-height.ensures (raised_falling (partition_extent s) (partition_cells s) c.args.site s.falling (omega arith))
