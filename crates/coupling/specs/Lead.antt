-- Leading a state through words, and what a list of words answers.
use Rattle.std.specs.Prelude.{ℕ, ◌^◌, ◌<◌, cond, List, [], ◌∷◌}
use Rattle.std.specs.List.{AllByRecursion}
use Rattle.std.specs.Str.{bytes_eq}
use Rattle.lattice.specs.Kind.{Meaning}

-- The state at time zero of one that starts as x and takes a step for each word, the oldest first.
abbrev pub lead : Meaning → List ℕ → List ℕ → List ℕ
lead m [] x = x
lead m (w ∷ ws) x = lead m ws (m.step w x)

-- Numbers of 64 bits.
abbrev pub Words : List ℕ → Type 0
Words ws = AllByRecursion (λ w. w < 2 ^ 64) ws

-- Where the runs from bottom and top are at time zero: met in one state, or apart at two.
pub data Ends : Type 0 where
  met_in : List ℕ → Ends
  apart_at : List ℕ → List ℕ → Ends

-- Two ends that are equal have met.
abbrev pub ends_of : List ℕ → List ℕ → Ends
ends_of low high = cond (bytes_eq low high) (met_in low) (apart_at low high)

-- The answer of a list of words.
abbrev pub outcome : Meaning → List ℕ → Ends
outcome m ws = ends_of (lead m ws m.bottom) (lead m ws m.top)
