use Rattle.std.proofs.Common.{◌≡◌, ℕ, List, sym, ◌∙◌, ap₂, arith}
use Rattle.lattice.specs.Grid.{Extent}
use Rattle.partitions.specs.Heights.{lowest}
use Rattle.partitions.specs.Partitions.{partition_cells, partition_extent}
use Rattle.partitions.specs.HeightsLemmas.{lowered_falling}
use Rattle.partitions.proofs.state.PlanePartition.lower.Goals as goal

pub put-requires : goal.put-requires
put-requires c =
    let s = c.args.self.now in
    let bound : c.lowest.result ≡ lowest (partition_extent s) (partition_cells s) c.args.site = c.lowest.ensures ∙ ap₂ (λ (e : Extent) (x : List ℕ). lowest e x c.args.site) c.shape.ensures c.as_slice.ensures in
    rw c.get-height.ensures (lowered_falling (partition_extent s) (partition_cells s) c.args.site (sym s.grid.cells.ok.0 ∙ s.grid.sized) s.falling (omega arith))
