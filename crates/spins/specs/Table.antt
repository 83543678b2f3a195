-- Threshold tables: nine thresholds from 0 to 2^32 that never fall.
use Rattle.std.specs.Prelude.{ℕ, ◌-◌, ◌^◌, ◌<◌, ◌≤◌, List, slice_index}

-- The thresholds before index n: none above 2^32, none below the one before it.
abbrev pub Rises : List ℕ → ℕ → Type 0
Rises values n = (i : ℕ) → i < n → (slice_index values i ≤ 2 ^ 32) × (0 < i → slice_index values (i - 1) ≤ slice_index values i)
