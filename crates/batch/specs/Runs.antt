-- What a run answers and leaves: a law about the windows that it goes through.
use Rattle.std.specs.Prelude.{◌≡◌, ℕ, ◌^◌, ◌<◌, ◌≤◌, false, cond, ◌&&◌, ◌⊎◌, MatchBool, ◌≢◌, nat_lt}
use Rattle.lattice.specs.Faults.{state_refusal}
use Rattle.lattice.specs.declared.fault.StateFault.TheVariants.{Foreign}
use Rattle.refusal.specs.Refusals.{given}
use Rattle.batch.specs.Ends.{two}
use Rattle.batch.specs.Faults.{tried_refusal}
use Rattle.batch.specs.Machine.{Machine, open_draw, with_out}
use Rattle.batch.specs.Tries.{Report, Setting, DrawAndStates, owned, refused_report, tried_to, try_report, with_two}

-- The doubled windows of a run: the powers of two below the stretch that are larger than the largest window tried.
pub record Doubled (stretch tried T : ℕ) : Type 0 where
  pub larger : tried < T
  pub below : T < stretch
  pub power : (k : ℕ) × (T ≡ 2 ^ k)

-- The windows of a run: the doubled ones, and the stretch itself.
abbrev pub Scheduled : (stretch tried T : ℕ) → Type 0
Scheduled stretch tried T = Doubled stretch tried T ⊎ ((T ≡ stretch) × (tried < stretch))

abbrev pub AnswersApart : Setting → Machine → DrawAndStates → ℕ → Type 0
AnswersApart s m st T = (try_report s m st T).answer ≡ given false

-- One turn of the doubling, which the law below does not use: a window that is not larger than the largest tried, or not
-- below the stretch, is passed over.
abbrev pub doubled_report : Setting → Machine → DrawAndStates → ℕ → Report
doubled_report s m st T =
    cond (nat_lt st.draw.tried T && nat_lt T m.stretch) (try_report s m st T)
    (record { answer = given false; machine = with_out m (open_draw st.draw); low = st.states.low; high = st.states.high })

-- What a try of window T that was apart leaves for the next.
abbrev pub after_apart : DrawAndStates → ℕ → Report → DrawAndStates
after_apart st T report =
    with_two (tried_to st.draw T) (two st.states.low_extent st.states.high_extent report.low report.high)

abbrev pub left_apart : Setting → Machine → DrawAndStates → ℕ → DrawAndStates
left_apart s m st T = after_apart st T (try_report s m st T)

-- The greatest doubled window below T.
pub record GreatestBelow (stretch tried T U : ℕ) : Type 0 where
  pub doubled : Doubled stretch tried U
  pub under : U < T
  pub greatest : (V : ℕ) → Doubled stretch tried V → V < T → V ≤ U

-- What was left before window T: what the greatest doubled window below T left, or what was there before the run.
abbrev pub LeftBefore : Setting → Machine → DrawAndStates → ℕ → DrawAndStates → Type 0
LeftBefore s m st T now =
    (((U : ℕ) → Doubled m.stretch st.draw.tried U → U < T → ⊥) × (now ≡ st))
    ⊎ ((U : ℕ) × GreatestBelow m.stretch st.draw.tried T U × (now ≡ left_apart s m st U))

-- The run comes to window T: every doubled window below T answers apart.
pub record ComesTo (s : Setting) (m : Machine) (st : DrawAndStates) (T : ℕ) (now : DrawAndStates) : Type 0 where
  pub apart_below : (U : ℕ) → Doubled m.stretch st.draw.tried U → U < T → AnswersApart s m st U
  pub left : LeftBefore s m st T now

-- It ends at the first window that is not apart, or else at the stretch, and reports as a try of that window does.
pub record EndsAt (s : Setting) (m : Machine) (st : DrawAndStates) (report : Report) (T : ℕ) : Type 0 where
  pub now : DrawAndStates
  pub scheduled : Scheduled m.stretch st.draw.tried T
  pub comes : ComesTo s m st T now
  pub last : (T ≡ m.stretch) ⊎ (report.answer ≢ given false)
  pub reports : report ≡ try_report s m now T

abbrev pub RunReports : Setting → Machine → DrawAndStates → Report → Type 0
RunReports s m st report =
    MatchBool (owned s st)
    (MatchBool (nat_lt st.draw.tried m.stretch)
    ((T : ℕ) × EndsAt s m st report T)
    (report ≡ refused_report m st tried_refusal))
    (report ≡ refused_report m st (state_refusal Foreign))
