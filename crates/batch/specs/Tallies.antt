-- What the counts of a batch count, and how a run counts as its tries.
use Rattle.std.specs.Prelude.{◌≡◌, ℕ, ◌+◌, ◌<◌, max, Bool, true, false, cond, ◌⊎◌, List, [], ◌∷◌, ◌++◌, length, Some}
use Rattle.std.specs.List.{filter}
use Rattle.batch.specs.Histories.{Event, History, is_tried}
use Rattle.batch.specs.Machine.{Draw, Machine, drawn, met_draw, none, open_draw}
use Rattle.batch.specs.Requests.{Said, Response, said_apart, said_closed, said_given_up, said_met, said_misplaced, said_opened}
use Rattle.batch.specs.Runs.{Doubled}
use Rattle.batch.specs.Tries.{Setting}
use Rattle.batch.specs.declared.stage.Request.{Request}
use Rattle.batch.specs.declared.stage.Request.TheVariants.{Try, Run}
use Rattle.lattice.specs.Kind.{Holds}

-- Whether an answer is that of an accepted open, of a close, of a give-up.
abbrev pub is_opened : Said → Bool
is_opened said_opened = true
is_opened _ = false

abbrev pub is_closed : Said → Bool
is_closed said_closed = true
is_closed _ = false

abbrev pub is_given_up : Said → Bool
is_given_up said_given_up = true
is_given_up _ = false

-- Whether it is that of a try or run that met.
abbrev pub is_met : Said → Bool
is_met said_met = true
is_met _ = false

-- How many events have such an answer.
abbrev pub how_many : (Said → Bool) → List Event → ℕ
how_many p es = length (filter (λ e. p e.response.said) es)

-- The events since the last accepted open, and those before it.
abbrev pub since_open : List Event → List Event
since_open [] = []
since_open (e ∷ es) = cond (is_opened e.response.said) [] (e ∷ since_open es)

abbrev pub before_open : List Event → List Event
before_open [] = []
before_open (e ∷ es) = cond (is_opened e.response.said) es (before_open es)

-- The window that a request names.
abbrev pub window_of : Request → ℕ
window_of (Try T) = T
window_of _ = 0

-- The greatest window of the accepted tries, 0 if there is none.
abbrev pub greatest_tried : List Event → ℕ
greatest_tried [] = 0
greatest_tried (e ∷ es) = cond (is_tried e.response.said) (max (greatest_tried es) (window_of e.request)) (greatest_tried es)

-- The counts are the numbers of accepted opens, of closes and of give-ups.
pub record Counted (es : List Event) (m : Machine) : Type 0 where
  pub opened : m.opened ≡ how_many is_opened es
  pub met : m.met ≡ how_many is_closed es
  pub given_up : m.given_up ≡ how_many is_given_up es

-- What the machine says of events without runs. As many draws have been opened as met and given up together, and one more
-- while a draw is out. The draw's number is the number of accepted opens before its own; its window is the greatest that
-- was accepted on it; and it is a met draw exactly if a try has met.
pub record Tallies (es : List Event) (m : Machine) : Type 0 where
  pub counts : Counted es m
  pub idle : m.out ≡ none → m.opened ≡ m.met + m.given_up
  pub busy : (d : Draw) → drawn m.out ≡ Some d → m.opened ≡ m.met + m.given_up + 1
  pub number : (d : Draw) → drawn m.out ≡ Some d → d.number ≡ how_many is_opened (before_open es)
  pub window : (d : Draw) → drawn m.out ≡ Some d → d.tried ≡ greatest_tried (since_open es)
  pub still_open : (d : Draw) → m.out ≡ open_draw d → how_many is_met (since_open es) ≡ 0
  pub has_met : (d : Draw) → m.out ≡ met_draw d → how_many is_met (since_open es) ≡ 1

-- A try of this window is among the events.
abbrev pub TriedIn : List Event → ℕ → Type 0
TriedIn es T = (e : Event) × Holds es e × (e.request ≡ Try T)

-- The tries of all doubled windows below T, each of them apart, and nothing else.
pub record DoubledTries (stretch tried T : ℕ) (es : List Event) : Type 0 where
  pub each : (e : Event) → Holds es e → (U : ℕ) × (e.request ≡ Try U) × Doubled stretch tried U × (U < T) × (e.response.said ≡ said_apart)
  pub all : (U : ℕ) → Doubled stretch tried U → U < T → TriedIn es U

-- The tries of a run, the last first: that one was of a doubled window or of the stretch, and ended as the run did.
abbrev pub TriesOfRun : (stretch tried : ℕ) → Response → List Event → Type 0
TriesOfRun stretch tried sc [] = ⊥
TriesOfRun stretch tried sc (e ∷ es) =
    (T : ℕ) × ((T ≡ stretch) ⊎ Doubled stretch tried T) × (e.request ≡ Try T) × (e.response ≡ sc) × DoubledTries stretch tried T es

-- An event behind older ones, with its tries in place of a run: the windows that it doubled are those larger than the
-- greatest tried on the draw before. A misplaced run has no tries.
abbrev pub UnrollsOne : Request → Event → (older newer : List Event) → Type 0
UnrollsOne Run e older newer =
    ((e.response.said ≡ said_misplaced) × (newer ≡ older))
    ⊎ ((ts : List Event) × TriesOfRun e.response.machine.stretch (greatest_tried (since_open older)) e.response ts × (newer ≡ ts ++ older))
UnrollsOne q e older newer = newer ≡ e ∷ older

-- The same events, with tries in place of runs.
abbrev pub Unrolls : List Event → List Event → Type 0
Unrolls [] fs = fs ≡ []
Unrolls (e ∷ es) fs = (gs : List Event) × Unrolls es gs × UnrollsOne e.request e gs fs

-- In every history the counts are those of its events, and a run counts as its tries: with these in the place of each run
-- the events are a history too, to the same machine, and its tally is right.
abbrev pub TallyCountsTheCalls : Setting → Type 0
TallyCountsTheCalls s =
    (es : List Event) (m : Machine) → History s es m →
    Counted es m × ((fs : List Event) × Unrolls es fs × History s fs m × Tallies fs m)
