-- When a try is accepted, and what it then reads.
use Rattle.std.proofs.Common.{◌≡◌, ℕ, ◌<◌, Bool, true, false, ◌&&◌, ltb, leb, ◌⊎◌, List, sym, refl, ap, ◌∙◌, inl, inr}
use Rattle.std.proofs.lemmas.Bool.{and_from, and_parts, le-leb, leb-true, lt-ltb, ltb-true}
use Rattle.coupling.specs.Lead.{Ends, apart_at, met_in, outcome}
use Rattle.coupling.specs.Windows.{CanFill, draw_place, window_words}
use Rattle.refusal.proofs.Provided.{passed}
use Rattle.refusal.specs.Refusals.{Answer, Refusal, given, refused, provided}
use Rattle.sources.specs.Sources.{has_place}
use Rattle.batch.specs.Machine.{Draw, Machine, met_draw, open_draw, with_out}
use Rattle.batch.specs.Runs.{AnswersApart}
use Rattle.batch.specs.Tries.{Report, Setting, DrawAndStates, read_for, ends_report, owned, report_of, tried_to, try_report, words_of_try}

pub record Accepted (s : Setting) (m : Machine) (st : DrawAndStates) (T : ℕ) : Type 0 where
  pub own : owned s st ≡ true
  pub larger : st.draw.tried < T
  pub fills : CanFill s.source m.stretch st.draw.number T

had : (number T v : ℕ) (b : Bool) (c : Refusal) (ws all : List ℕ) → given ws ≡ read_for number T (provided b c (given v)) (λ w. all) → (b ≡ true) × (ws ≡ all)
had number T v true c ws all e = (refl, cc)
had number T v false c ws all e = cc

pub accepted_when : (s : Setting) (m : Machine) (st : DrawAndStates) (T : ℕ) (ws : List ℕ) → given ws ≡ words_of_try s m st T → Accepted s m st T × (ws ≡ window_words s.source m.stretch st.draw.number T)
accepted_when s m st T ws e =
    let first = passed (owned s st) _ _ ws e in
    let second = passed (leb 1 T && leb T m.stretch) _ _ ws first.1 in
    let third = passed (ltb st.draw.tried T) _ _ ws second.1 in
    let fourth = had st.draw.number T _ (has_place s.source (draw_place m.stretch st.draw.number T)) _ ws _ third.1 in
    let range = and_parts _ _ second.0 in (
      record {
        own = first.0;
        larger = ltb-true _ _ third.0;
        fills = record { some = leb-true 1 T range.0; fits = leb-true T m.stretch range.1; oldest = fourth.0 };
      },
      fourth.1,
    )

-- and the other way round
pub accepts : (s : Setting) (m : Machine) (st : DrawAndStates) (T : ℕ) → Accepted s m st T → words_of_try s m st T ≡ given (window_words s.source m.stretch st.draw.number T)
accepts s m st T a =
    rw a.own
    rw (and_from _ _ (le-leb 1 T a.fills.some) (le-leb T m.stretch a.fills.fits))
    rw (lt-ltb _ _ a.larger)
    rw a.fills.oldest
    refl

pub which : {A : Type 0} (a : Answer A) → ((x : A) × (given x ≡ a)) ⊎ ((c : Refusal) × (refused c ≡ a))
which (given x) = inl (x, refl)
which (refused c) = inr (c, refl)

-- a try that answers met or apart was accepted
pub answered : (s : Setting) (m : Machine) (st : DrawAndStates) (T : ℕ) (b : Bool) → (try_report s m st T).answer ≡ given b → Accepted s m st T
answered s m st T b e =
    elim (which (words_of_try s m st T)) [
      | inl h ↦ (accepted_when s m st T h.0 h.1).0
      | inr h ↦ cc (ap (λ (a : Answer (List ℕ)). (report_of s m st T a).answer) h.1, e)
    ]

-- what an accepted try reports
pub accepted_report : (s : Setting) (m : Machine) (st : DrawAndStates) (T : ℕ) → Accepted s m st T → try_report s m st T ≡ ends_report m st.draw T (outcome s.rule (window_words s.source m.stretch st.draw.number T))
accepted_report s m st T a = ap (report_of s m st T) (accepts s m st T a)

-- of the draw only its number matters
pub same_number : (m : Machine) (d e : Draw) (T : ℕ) (ends : Ends) → d.number ≡ e.number → ends_report m d T ends ≡ ends_report m e T ends
same_number m d e T (met_in y) same = ap (λ (n : ℕ). record { answer = given true; machine = with_out m (met_draw (record { number = n; tried = T })); low = y; high = y }) same
same_number m d e T (apart_at x y) same = ap (λ (n : ℕ). record { answer = given false; machine = with_out m (open_draw (record { number = n; tried = T })); low = x; high = y }) same

-- two accepted tries of one window on one draw report the same
pub same_report : (s : Setting) (m : Machine) (st now : DrawAndStates) (T : ℕ) → now.draw.number ≡ st.draw.number → Accepted s m now T → Accepted s m st T → try_report s m now T ≡ try_report s m st T
same_report s m st now T same a b =
    accepted_report s m now T a
    ∙ same_number m now.draw st.draw T _ same
    ∙ ap (λ (n : ℕ). ends_report m st.draw T (outcome s.rule (window_words s.source m.stretch n T))) same
    ∙ sym (accepted_report s m st T b)

apart_ends : (m : Machine) (d : Draw) (T : ℕ) (ends : Ends) → (ends_report m d T ends).answer ≡ given false → (ends_report m d T ends).machine ≡ with_out m (open_draw (tried_to d T))
apart_ends m d T (met_in y) e = cc
apart_ends m d T (apart_at x y) e = refl

-- the machine after a try that was apart
pub apart_machine : (s : Setting) (m : Machine) (st : DrawAndStates) (T : ℕ) → AnswersApart s m st T → (try_report s m st T).machine ≡ with_out m (open_draw (tried_to st.draw T))
apart_machine s m st T apart =
    let report = accepted_report s m st T (answered s m st T false apart) in
    ap (λ (r : Report). r.machine) report ∙ apart_ends m st.draw T _ (sym (ap (λ (r : Report). r.answer) report) ∙ apart)
