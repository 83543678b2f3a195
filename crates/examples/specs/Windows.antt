-- One height with cap 2 and three words: up, up and then down.
use Rattle.std.specs.Prelude.{◌≡◌, [], ◌∷◌, take, replicate}
use Rattle.coupling.specs.Lead.{apart_at, met_in, outcome}
use Rattle.coupling.specs.Windows.{window_words}
use Rattle.lattice.specs.Kind.{Meaning}
use Rattle.partitions.specs.Heights.{partitions_meaning}
use Rattle.sources.specs.Recordings.{recording_reading}
use Rattle.sources.specs.Sources.{Reading}

abbrev pub one_height : Meaning
one_height = partitions_meaning (record { rows = 1; columns = 1; largest = 2 })

-- Place 1 has the level 2^31, which is down; places 2 and 3 have the level 0, which is up.
abbrev pub up_up_down : Reading
up_up_down = recording_reading (0 ∷ 0 ∷ 0 ∷ 0 ∷ 128 ∷ 0 ∷ 0 ∷ 0 ∷ replicate 16 0)

-- Windows 1 and 2 of draw 0 are apart with ends 0 and 1, and window 3 meets in 1. Its two runs are together in 2 after two
-- of the three words already, but that is not the sample.
abbrev pub MeetsAtTheThird : Type 0
MeetsAtTheThird =
    (outcome one_height (window_words up_up_down 3 0 1) ≡ apart_at (0 ∷ []) (1 ∷ []))
    × (outcome one_height (window_words up_up_down 3 0 2) ≡ apart_at (0 ∷ []) (1 ∷ []))
    × (outcome one_height (window_words up_up_down 3 0 3) ≡ met_in (1 ∷ []))
    × (outcome one_height (take 2 (window_words up_up_down 3 0 3)) ≡ met_in (2 ∷ []))
