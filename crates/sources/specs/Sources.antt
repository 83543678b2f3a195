-- What a source of words means, and what it answers when it is asked for one.
use Rattle.std.specs.Prelude.{ℕ, ◌^◌, ◌<◌, ◌≤◌, Bool, ◌&&◌, nat_le}
use Rattle.refusal.specs.Refusals.{Answer, given, provided}
use Rattle.sources.specs.Faults.{no_word_refusal}

-- How many words a source has, and the word at each place, counted from 1.
pub record Reading : Type 0 where
  pub depth : ℕ
  pub word : ℕ → ℕ

abbrev pub has_place : Reading → ℕ → Bool
has_place s place = nat_le 1 place && nat_le place s.depth

-- Whether a place is one of the places 1 to depth, or else the refusal of it.
abbrev pub place_answer : (place depth : ℕ) → Answer (Unit {0})
place_answer place depth = provided (nat_le 1 place && nat_le place depth) (no_word_refusal (record { place = place; depth = depth })) (given tt)

abbrev pub word_answer : Reading → ℕ → Answer ℕ
word_answer s place =
    provided (has_place s place) (no_word_refusal (record { place = place; depth = s.depth }))
    (given (s.word place))

-- Every word fits 64 bits.
abbrev pub Sound : Reading → Type 0
Sound s = (place : ℕ) → 1 ≤ place → place ≤ s.depth → s.word place < 2 ^ 64
