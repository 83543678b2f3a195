-- The extent that a shape stands for, and when sides and a cap make one.
use Rattle.std.specs.Prelude.{ℕ, ◌&&◌}
use Rattle.std.specs.Int.{is_in_range}
use Rattle.lattice.specs.Grid.{Extent}
use Rattle.refusal.specs.Refusals.{Answer, given, provided}
use Rattle.lattice.specs.Faults.{shape_refusal}
use Rattle.lattice.specs.declared.fault.ShapeFault.TheVariants.{Side, Cap}
use Rattle.lattice.specs.declared.shape.Shape.{Shape}

abbrev pub extent_of : Shape → Extent
extent_of s = record { rows = s.rows; columns = s.columns; largest = s.«cap» }

-- Sides are tested before the cap; the kind allows caps from 1 to `most`.
abbrev pub shape_answer : (rows columns top_value most : ℕ) → Answer Extent
shape_answer rows columns top_value most =
    provided (is_in_range 1 32 rows && is_in_range 1 32 columns) (shape_refusal Side)
    (provided (is_in_range 1 most top_value) (shape_refusal Cap)
    (given (record { rows = rows; columns = columns; largest = top_value })))
