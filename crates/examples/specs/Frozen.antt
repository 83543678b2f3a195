-- A kind whose runs never meet.
use Rattle.std.specs.Prelude.{◌≡◌, ℕ, List}
use Rattle.coupling.specs.Lead.{Words, apart_at, outcome}
use Rattle.lattice.specs.Kind.{Meaning}

-- Whatever the words, bottom and top stay where they are.
abbrev pub AlwaysApart : Meaning → Type 0
AlwaysApart m = (ws : List ℕ) → Words ws → outcome m ws ≡ apart_at m.bottom m.top
