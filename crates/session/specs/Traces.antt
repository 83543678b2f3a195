-- A trace: the bottom, moved by the words of a window of places, the last place first.
use Rattle.std.specs.Prelude.{◌≡◌, ℕ, ◌-◌, cond, ◌⊎◌, List, Some, None, MatchBool, Option, ◌==◌}
use Rattle.coupling.specs.Lead.{lead}
use Rattle.coupling.specs.Windows.{window_words}
use Rattle.lattice.specs.Faults.{state_refusal}
use Rattle.lattice.specs.Grid.{Extent, agree, cell_count}
use Rattle.lattice.specs.Kind.{Meaning}
use Rattle.lattice.specs.Words.{site, level}
use Rattle.lattice.specs.declared.fault.StateFault.TheVariants.{Foreign}
use Rattle.refusal.specs.Refusals.{Answer, Refusal, given, no_memory, provided, refused}
use Rattle.sources.specs.Faults.{no_word_refusal}
use Rattle.sources.specs.Sources.{Reading, has_place}
use Rattle.session.specs.declared.trace.Step.{Step}
use Rattle.session.specs.declared.trace.TraceFault.{TraceFault}
use Rattle.session.specs.declared.trace.TraceFault.TheVariants.{Word, State}

-- The refusal of a trace is that of its source, or that of its state.
abbrev pub trace_refusal : {F : Type 0} → (F → Refusal) → TraceFault F → Refusal
trace_refusal why (Word f) = why f
trace_refusal why (State f) = state_refusal f

-- A trace starts with all its places left and the state as the bottom, where the source has the first of the places.
abbrev pub Starts : Meaning → Reading → ℕ → Answer (ℕ × List ℕ) → Type 0
Starts m r back a =
    MatchBool (has_place r back)
    ((a ≡ given (back, m.bottom)) ⊎ (a ≡ refused no_memory))
    (a ≡ refused (no_word_refusal (record { place = back; depth = r.depth })))

-- The move at a place: the place, its word, and the site and the level that the word chooses.
abbrev pub move_at : ℕ → Reading → ℕ → Step
move_at cells r place =
    record { place = place; word = r.word place; chosen = record { site = site cells (r.word place); level = level (r.word place) } }

-- The next move is the one at the number of places left. None is left to make at 0.
abbrev pub next_answer : (rule state : Extent) → Reading → ℕ → Answer (Option Step)
next_answer rule state r left =
    cond (left == 0) (given None)
    (provided (has_place r left) (no_word_refusal (record { place = left; depth = r.depth }))
    (provided (agree rule state) (state_refusal Foreign)
    (given (Some (move_at (cell_count rule) r left)))))

-- What is left after it: one place fewer, and the state moved by the word. Without a move all is as it was.
abbrev pub after : Answer (Option Step) → Meaning → ℕ → List ℕ → ℕ × List ℕ
after (given (Some move)) m left cells = (left - 1, m.step move.word cells)
after (given None) m left cells = (left, cells)
after (refused c) m left cells = (left, cells)

-- Where a trace ends: in the state to which the words of the places left lead.
abbrev pub end_of : Meaning → Reading → ℕ × List ℕ → List ℕ
end_of m r at = lead m (window_words r 0 0 at.0) at.1
