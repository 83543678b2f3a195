-- How numbers stand in a line of an answer.
use Rattle.std.specs.Prelude.{ℕ, List, ◌∷◌, decimal}

-- A space and the number in decimal.
abbrev pub spaced : ℕ → List ℕ
spaced n = 32 ∷ decimal n
