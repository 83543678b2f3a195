-- A grid of cells: its sides and cap, and which cells lie beside which.
-- The cell in row r and column c has the number r * columns + c, each counted from 0.
use Rattle.std.specs.Prelude.{ℕ, ◌+◌, ◌*◌, ◌/◌, ◌%◌, ◌≤◌, Bool, cond, ◌&&◌, List, [], ◌∷◌, ℤ, pos, negsuc, ◌+ℤ◌, Some, None, Option, ◌==◌, nat_lt}
use Rattle.std.specs.List.{flat_map}
use Rattle.std.specs.Option.{option_to_list}

-- The sides, and the cap, which is the largest value that a cell may hold.
pub record Extent : Type 0 where
  pub rows : ℕ
  pub columns : ℕ
  pub largest : ℕ

abbrev pub cell_count : Extent → ℕ
cell_count e = e.rows * e.columns

pub record InRange (e : Extent) : Type 0 where
  pub rows_from : 1 ≤ e.rows
  pub rows_to : e.rows ≤ 32
  pub columns_from : 1 ≤ e.columns
  pub columns_to : e.columns ≤ 32
  pub largest_from : 1 ≤ e.largest
  pub largest_to : e.largest ≤ 255

-- Whether two extents agree in sides and cap.
abbrev pub agree : Extent → Extent → Bool
agree e f = e.rows == f.rows && e.columns == f.columns && e.largest == f.largest

-- The cell at a row and a column, where the grid has both.
abbrev pub cell_at : Extent → ℤ → ℤ → Option ℕ
cell_at e (pos r) (pos c) = cond (nat_lt r e.rows && nat_lt c e.columns) (Some (r * e.columns + c)) None
cell_at e (pos r) (negsuc c) = None
cell_at e (negsuc r) c = None

-- The cell that lies one shift of row and column away.
abbrev pub beside : Extent → ℕ → ℤ × ℤ → Option ℕ
beside e i shift = cell_at e (pos (i / e.columns) +ℤ shift.0) (pos (i % e.columns) +ℤ shift.1)

-- Above, below, left, right.
abbrev pub directions : List (ℤ × ℤ)
directions = (negsuc 0, pos 0) ∷ (pos 1, pos 0) ∷ (pos 0, negsuc 0) ∷ (pos 0, pos 1) ∷ []

-- The neighbours of a cell: those of the four that exist.
abbrev pub neighbours : Extent → ℕ → List ℕ
neighbours e i = flat_map (λ shift. option_to_list (beside e i shift)) directions
