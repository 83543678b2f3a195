-- How many lists of words meet in a state.
use Rattle.std.specs.Prelude.{ℕ, zero, suc, ◌+◌, ◌*◌, ◌^◌, ◌≤◌, Bool, true, false, cond, List, [], ◌∷◌, length}
use Rattle.std.specs.Str.{bytes_eq}
use Rattle.lattice.specs.Counts.{sum_below}
use Rattle.lattice.specs.Kind.{Meaning, Lawful}
use Rattle.coupling.specs.Lead.{Ends, met_in, apart_at, outcome}

-- The sum of f over all lists of n words.
unfoldable pub sum_lists : ℕ → (List ℕ → ℕ) → ℕ
sum_lists zero f = f []
sum_lists (suc n) f = sum_below (2 ^ 64) (λ w. sum_lists n (λ ws. f (w ∷ ws)))

abbrev pub is_met_in : List ℕ → Ends → Bool
is_met_in x (met_in y) = bytes_eq y x
is_met_in x (apart_at low high) = false

abbrev pub is_apart : Ends → Bool
is_apart (met_in y) = false
is_apart (apart_at low high) = true

-- All lists of n words; those that meet in x; those that are apart.
abbrev pub all_lists : ℕ → ℕ
all_lists n = (2 ^ 64) ^ n

abbrev pub lists_meeting_in : Meaning → ℕ → List ℕ → ℕ
lists_meeting_in m n x = sum_lists n (λ ws. cond (is_met_in x (outcome m ws)) 1 0)

abbrev pub lists_apart : Meaning → ℕ → ℕ
lists_apart m n = sum_lists n (λ ws. cond (is_apart (outcome m ws)) 1 0)

-- The share of each lawful state among all lists is 1 over their number, but for the lists that are apart: the lists
-- that meet in the state, times the number of states, are at most all lists, and fall short of them by at most the
-- lists that are apart, times that number.
abbrev pub EqualShares : Meaning → Type 0
EqualShares m =
    (n : ℕ) (x : List ℕ) → Lawful m x →
    (lists_meeting_in m n x * length m.states ≤ all_lists n)
    × (all_lists n ≤ lists_meeting_in m n x * length m.states + lists_apart m n * length m.states)
