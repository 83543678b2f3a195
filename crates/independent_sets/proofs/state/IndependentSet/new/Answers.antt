use Rattle.std.proofs.Common.{◌∙◌, ap₂, arith}
use Rattle.lattice.proofs.Cells.{replicate_upto}
use Rattle.lattice.specs.Grid.{cell_count}
use Rattle.lattice.specs.Shapes.{extent_of}
use Rattle.independent_sets.specs.Apart.{from_apart}
use Rattle.independent_sets.specs.Independent.{independent}
use Rattle.independent_sets.proofs.state.IndependentSet.new.Goals as goal

pub invariant_of-set : goal.invariant_of-set
invariant_of-set c =
    let e = extent_of c.args.shape in
    let made = c.in_ok-grid.ensures in record {
      bits = λ i. rw made.0 (replicate_upto (cell_count e) 0 1 i (omega arith));
      apart = ap₂ independent made.1 made.0 ∙ from_apart e _ (λ i j h occupied. absurd (omega (arith, replicate_upto (cell_count e) 0 0 i (omega arith))));
    }
