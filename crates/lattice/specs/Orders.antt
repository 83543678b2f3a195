-- The order cell by cell.
use Rattle.std.specs.Prelude.{ℕ, ◌≤◌, List, slice_index}

abbrev pub cellwise : List ℕ → List ℕ → Type 0
cellwise x y = (i : ℕ) → slice_index x i ≤ slice_index y i
