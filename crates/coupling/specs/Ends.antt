-- Where all lawful starts end, and which windows answer alike.
use Rattle.std.specs.Prelude.{◌≡◌, ℕ, ◌≤◌, List, ◌++◌, ◌≢◌}
use Rattle.lattice.specs.Kind.{Meaning, Lawful}
use Rattle.sources.specs.Sources.{Reading}
use Rattle.coupling.specs.Lead.{Words, lead, met_in, apart_at, outcome}
use Rattle.coupling.specs.Windows.{Agree, CanFill, window_words}

-- Every lawful start, led through the words, ends between the ends of bottom and top.
abbrev pub EndsBetween : Meaning → Type 0
EndsBetween m =
    (ws : List ℕ) → Words ws → (x : List ℕ) → Lawful m x →
    m.below (lead m ws m.bottom) (lead m ws x) × m.below (lead m ws x) (lead m ws m.top)

-- Every lawful start ends in y.
abbrev pub AllEndIn : Meaning → List ℕ → List ℕ → Type 0
AllEndIn m ws y = (x : List ℕ) → Lawful m x → lead m ws x ≡ y

-- Some two lawful starts end different.
abbrev pub SomeEndApart : Meaning → List ℕ → Type 0
SomeEndApart m ws = (x : List ℕ) × (y : List ℕ) × Lawful m x × Lawful m y × (lead m ws x ≢ lead m ws y)

-- Words meet in a state exactly if every lawful start ends in it,
abbrev pub MeetsWhereAllEnd : Meaning → Type 0
MeetsWhereAllEnd m =
    (ws : List ℕ) → Words ws → (y : List ℕ) →
    (outcome m ws ≡ met_in y → AllEndIn m ws y) × (AllEndIn m ws y → outcome m ws ≡ met_in y)

-- and they are apart exactly if two lawful starts end different.
abbrev pub ApartWhereSomeDiffer : Meaning → Type 0
ApartWhereSomeDiffer m =
    (ws : List ℕ) → Words ws →
    ((low high : List ℕ) → outcome m ws ≡ apart_at low high → SomeEndApart m ws)
    × (SomeEndApart m ws → outcome m ws ≡ apart_at (lead m ws m.bottom) (lead m ws m.top))

-- Words that meet in a state do so whatever older words stand before them.
abbrev pub OlderWordsChangeNothing : Meaning → Type 0
OlderWordsChangeNothing m =
    (older newer : List ℕ) → Words (older ++ newer) → (y : List ℕ) → outcome m newer ≡ met_in y → outcome m (older ++ newer) ≡ met_in y

-- Once a window meets, every larger window of the draw that the source can fill meets in the same state.
abbrev pub LargerWindowsKeepTheSample : Meaning → Reading → Type 0
LargerWindowsKeepTheSample m r =
    (stretch d T U : ℕ) → CanFill r stretch d U → T ≤ U → (y : List ℕ) →
    outcome m (window_words r stretch d T) ≡ met_in y → outcome m (window_words r stretch d U) ≡ met_in y

-- Two agreeing sources, on one draw number and two windows that meet, give one state.
abbrev pub AgreeingSourcesMeetAlike : Meaning → Reading → Reading → Type 0
AgreeingSourcesMeetAlike m r q =
    Agree r q → (stretch d T U : ℕ) → CanFill r stretch d T → CanFill q stretch d U → (x y : List ℕ) →
    outcome m (window_words r stretch d T) ≡ met_in x → outcome m (window_words q stretch d U) ≡ met_in y → x ≡ y
