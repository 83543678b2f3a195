-- What the two states of a draw mean.
use Rattle.std.specs.Prelude.{◌≡◌, ℕ, List}
use Rattle.lattice.specs.Grid.{Extent}

-- The extents that the two states carry, and their cells.
pub record Two : Type 0 where
  pub low_extent : Extent
  pub high_extent : Extent
  pub low : List ℕ
  pub high : List ℕ

abbrev pub two : (low_extent high_extent : Extent) → (low high : List ℕ) → Two
two e f x y = record { low_extent = e; high_extent = f; low = x; high = y }

-- Both carry what they carried before.
abbrev pub SameExtents : (before after : Two) → Type 0
SameExtents s t = (t.low_extent ≡ s.low_extent) × (t.high_extent ≡ s.high_extent)
