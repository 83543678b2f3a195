-- What a try of a window answers and leaves.
use Rattle.std.specs.Prelude.{ℕ, Bool, true, false, ◌&&◌, List, nat_le, nat_lt}
use Rattle.coupling.specs.Lead.{Ends, apart_at, met_in, outcome}
use Rattle.coupling.specs.Windows.{draw_place, window_words}
use Rattle.lattice.specs.Faults.{state_refusal}
use Rattle.lattice.specs.Grid.{Extent, agree}
use Rattle.lattice.specs.Kind.{Meaning}
use Rattle.lattice.specs.declared.fault.StateFault.TheVariants.{Foreign}
use Rattle.refusal.specs.Refusals.{Answer, Refusal, given, provided, refused}
use Rattle.sources.specs.Sources.{Reading, word_answer}
use Rattle.batch.specs.Ends.{Two}
use Rattle.batch.specs.Faults.{tried_refusal, unfilled_refusal, window_refusal}
use Rattle.batch.specs.Machine.{Draw, Machine, met_draw, open_draw, with_out}

-- The rule and the source: they stay the same for all calls.
pub record Setting : Type 1 where
  pub rule : Meaning
  pub extent : Extent
  pub source : Reading

abbrev pub setting : Meaning → Extent → Reading → Setting
setting m e r = record { rule = m; extent = e; source = r }

-- An open draw, and the two states that a try is handed.
pub record DrawAndStates : Type 0 where
  pub draw : Draw
  pub states : Two

abbrev pub with_two : Draw → Two → DrawAndStates
with_two d t = record { draw = d; states = t }

-- What a try answers: met (true) or apart (false), or a refusal; and what it leaves: the machine and both states.
pub record Report : Type 0 where
  pub answer : Answer Bool
  pub machine : Machine
  pub low : List ℕ
  pub high : List ℕ

abbrev pub tried_to : Draw → ℕ → Draw
tried_to d T = record { number = d.number; tried = T }

-- What comes of a word that a source gives, or its refusal behind the draw's number and the window.
abbrev pub read_for : (number T : ℕ) → {A : Type 0} → Answer ℕ → (ℕ → A) → Answer A
read_for number T (given w) f = given (f w)
read_for number T (refused c) f = refused (unfilled_refusal number T c)

-- The word at place t of a draw, read for window T.
abbrev pub placed : Reading → (stretch number T t : ℕ) → Answer ℕ
placed r stretch number T t = read_for number T (word_answer r (draw_place stretch number t)) (λ w. w)

-- The words of a window, if the source has its oldest place.
abbrev pub filled : Reading → (stretch number T : ℕ) → Answer (List ℕ)
filled r stretch number T = read_for number T (word_answer r (draw_place stretch number T)) (λ w. window_words r stretch number T)

abbrev pub owned : Setting → DrawAndStates → Bool
owned s st = agree s.extent st.states.low_extent && agree s.extent st.states.high_extent

-- The words that a try reads, or why it is refused.
abbrev pub words_of_try : Setting → Machine → DrawAndStates → ℕ → Answer (List ℕ)
words_of_try s m st T =
    provided (owned s st) (state_refusal Foreign)
    (provided (nat_le 1 T && nat_le T m.stretch) window_refusal
    (provided (nat_lt st.draw.tried T) tried_refusal
    (filled s.source m.stretch st.draw.number T)))

-- A refusal changes nothing.
abbrev pub refused_report : Machine → DrawAndStates → Refusal → Report
refused_report m st c = record { answer = refused c; machine = with_out m (open_draw st.draw); low = st.states.low; high = st.states.high }

-- Ends that met are in both states, and the draw has met; else the states hold the two ends, and the draw stays open.
abbrev pub ends_report : Machine → Draw → ℕ → Ends → Report
ends_report m d T (met_in y) = record { answer = given true; machine = with_out m (met_draw (tried_to d T)); low = y; high = y }
ends_report m d T (apart_at x y) = record { answer = given false; machine = with_out m (open_draw (tried_to d T)); low = x; high = y }

abbrev pub report_of : Setting → Machine → DrawAndStates → ℕ → Answer (List ℕ) → Report
report_of s m st T (given ws) = ends_report m st.draw T (outcome s.rule ws)
report_of s m st T (refused c) = refused_report m st c

abbrev pub try_report : Setting → Machine → DrawAndStates → ℕ → Report
try_report s m st T = report_of s m st T (words_of_try s m st T)
