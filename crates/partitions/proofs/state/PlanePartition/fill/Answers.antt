use Rattle.std.proofs.Common.{List, ℕ, sym, subst, ap, arith}
use Rattle.lattice.specs.Grid.{Extent}
use Rattle.lattice.specs.Grids.{grid_extent}
use Rattle.partitions.specs.Heights.{Falling}
use Rattle.partitions.specs.HeightsLemmas.{level_falling}
use Rattle.partitions.proofs.state.PlanePartition.fill.Goals as goal

pub invariant_of-self : goal.invariant_of-self
invariant_of-self c =
    let e = grid_extent c.fill.new.self in
    record { falling = subst (λ (x : List ℕ). Falling e x) (sym c.fill.ensures.writes) (level_falling e _ _ (omega (arith, ap (λ (f : Extent). f.largest) c.fill.ensures.keeps))) }
