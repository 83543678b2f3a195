-- The counts of a batch, along every history without runs.
use Rattle.std.proofs.Common.{◌≡◌, ℕ, suc, max, add-one, ◌+◌, ◌<◌, Bool, true, false, List, [], ◌∷◌, Some, sym, refl, ap, ◌∙◌, subst, inl, inr, arith, rules}
use Rattle.std.proofs.Math.Nat.{max-eq_right}
use Rattle.coupling.specs.Lead.{Ends, apart_at, met_in, outcome}
use Rattle.refusal.proofs.Provided.{passed, same_given}
use Rattle.refusal.specs.Refusals.{Refusal, given, provided}
use Rattle.batch.specs.Histories.{Event, event}
use Rattle.batch.specs.Machine.{Draw, Machine, Out, drawn, left_after, met_draw, new_answer, new_machine, none, one_closed, one_given_up, one_opened, open_draw, with_out}
use Rattle.batch.specs.Ends.{Two}
use Rattle.batch.specs.Requests.{CarriesByDraw, Response, states_kept, reported, said_apart, said_closed, said_given_up, said_met, said_misplaced, said_open, said_opened, response}
use Rattle.batch.specs.Tallies.{Counted, Tallies, greatest_tried, since_open}
use Rattle.batch.specs.Tries.{Setting, ends_report, report_of, tried_to, try_report, words_of_try, with_two}
use Rattle.batch.specs.declared.stage.Request.{Request}
use Rattle.batch.specs.declared.stage.Request.TheVariants.{Open, Try, Run, Close, GiveUp}
use Rattle.batch.proofs.Accepted.{accepted_when, which}

-- a new batch
pub new_is : (m : Machine) (b : Bool) (c : Refusal) (n : Machine) → provided b c (given n) ≡ given m → (b ≡ true) × (n ≡ m)
new_is m b c n e = let p = passed b c (given n) m (sym e) in (p.0, same_given n m (sym p.1))

-- with no draw out the counts alone are left to say
idle_tallies : (es : List Event) (m : Machine) → m.out ≡ none → m.opened ≡ m.met + m.given_up → Counted es m → Tallies es m
idle_tallies es m free whole counts =
    record { counts = counts; idle = λ _. whole; busy = λ d out. cc; number = λ d out. cc; window = λ d out. cc; still_open = λ d out. cc; has_met = λ d out. cc }

pub begins : (stretch : ℕ) (m : Machine) → new_answer stretch ≡ given m → Tallies [] m
begins stretch m e = subst (Tallies []) (new_is m _ _ (new_machine stretch) e).1 (idle_tallies [] _ refl refl (record { opened = refl; met = refl; given_up = refl }))

opened_adds : (t : Two) (x y : List ℕ) (n : Machine) (es : List Event) (m : Machine) → m.out ≡ none → Tallies es m → Tallies (event Open t (response said_opened n x y) ∷ es) (one_opened m)
opened_adds t x y n es m free h =
    record {
      counts = record { opened = add-one _ ∙ ap suc h.counts.opened; met = h.counts.met; given_up = h.counts.given_up };
      idle = λ out. cc;
      busy = λ d out. ap (λ (k : ℕ). k + 1) (h.idle free);
      number = λ d out. cc h.counts.opened;
      window = λ d out. cc;
      still_open = λ d out. refl;
      has_met = λ d out. cc;
    }

module _ (T : ℕ) (t : Two) (x y : List ℕ) (n : Machine) (es : List Event) (m : Machine) (d : Draw) (is_open : m.out ≡ open_draw d) (larger : d.tried < T) (h : Tallies es m) where
  was_out : drawn m.out ≡ Some d
  was_out = ap drawn is_open

  window_now : T ≡ max (greatest_tried (since_open es)) T
  window_now = sym (max-eq_right (omega (arith, h.window d was_out, larger)))

  apart_tried : Tallies (event (Try T) t (response said_apart n x y) ∷ es) (with_out m (open_draw (tried_to d T)))
  apart_tried =
      record {
        counts = record { opened = h.counts.opened; met = h.counts.met; given_up = h.counts.given_up };
        idle = λ out. cc;
        busy = λ c out. h.busy d was_out;
        number = λ c out. cc (h.number d was_out);
        window = λ c out. cc window_now;
        still_open = λ c out. h.still_open d is_open;
        has_met = λ c out. cc;
      }

  met_tried : Tallies (event (Try T) t (response said_met n x y) ∷ es) (with_out m (met_draw (tried_to d T)))
  met_tried =
      record {
        counts = record { opened = h.counts.opened; met = h.counts.met; given_up = h.counts.given_up };
        idle = λ out. cc;
        busy = λ c out. h.busy d was_out;
        number = λ c out. cc (h.number d was_out);
        window = λ c out. cc window_now;
        still_open = λ c out. cc;
        has_met = λ c out. ap suc (h.still_open d is_open);
      }

closed_adds : (t : Two) (x y : List ℕ) (n : Machine) (es : List Event) (m : Machine) (d : Draw) → m.out ≡ met_draw d → Tallies es m → Tallies (event Close t (response said_closed n x y) ∷ es) (one_closed m)
closed_adds t x y n es m d out h =
    idle_tallies _ _ refl (omega (arith, h.busy d (ap drawn out)))
    (record { opened = h.counts.opened; met = add-one _ ∙ ap suc h.counts.met; given_up = h.counts.given_up })

given_up_adds : (t : Two) (x y : List ℕ) (n : Machine) (es : List Event) (m : Machine) (d : Draw) → m.out ≡ open_draw d → Tallies es m → Tallies (event GiveUp t (response said_given_up n x y) ∷ es) (one_given_up m)
given_up_adds t x y n es m d out h =
    idle_tallies _ _ refl (omega (arith, h.busy d (ap drawn out)))
    (record { opened = h.counts.opened; met = h.counts.met; given_up = add-one _ ∙ ap suc h.counts.given_up })

abbrev With : Request → Two → List Event → Response → Type 0
With q t es sc = Tallies (event q t sc ∷ es) sc.machine

misplaced_step : (q : Request) (t : Two) (es : List Event) (m : Machine) (sc : Response) → sc ≡ states_kept said_misplaced m t → Tallies es m → With q t es sc
misplaced_step q t es m sc is h = subst (With q t es) (sym is) (search rules)

open_step : (t : Two) (es : List Event) (m : Machine) (b : Bool) (c : Refusal) (sc : Response) → m.out ≡ none → sc ≡ states_kept (said_open (provided b c (given (one_opened m)))) (left_after (provided b c (given (one_opened m))) m) t → Tallies es m → With Open t es sc
open_step t es m true c sc free is h = subst (With Open t es) (sym is) (opened_adds t _ _ _ es m free h)
open_step t es m false c sc free is h = subst (With Open t es) (sym is) (search rules)

ends_step : (t : Two) (es : List Event) (m : Machine) (d : Draw) (T : ℕ) (ends : Ends) → m.out ≡ open_draw d → d.tried < T → Tallies es m → With (Try T) t es (reported (ends_report m d T ends))
ends_step t es m d T (met_in y) is_open larger h = met_tried T t y y _ es m d is_open larger h
ends_step t es m d T (apart_at x y) is_open larger h = apart_tried T t x y _ es m d is_open larger h

-- a machine with the draw that it has
pub same_out : (m : Machine) (o : Out) → m.out ≡ o → m ≡ with_out m o
same_out m o e = ap (with_out m) e

pub try_step : (s : Setting) (t : Two) (es : List Event) (m : Machine) (d : Draw) (T : ℕ) (sc : Response) → m.out ≡ open_draw d → sc ≡ reported (try_report s m (with_two d t) T) → Tallies es m → With (Try T) t es sc
try_step s t es m d T sc is_open is h =
    let st = with_two d t in
    elim (which (words_of_try s m st T)) [
      | inl w ↦ let report = ap (report_of s m st T) (sym w.1) in
          subst (With (Try T) t es) (sym (is ∙ ap reported report)) (ends_step t es m d T (outcome s.rule w.0) is_open (accepted_when s m st T w.0 w.1).0.larger h)
      | inr w ↦ let report = ap (report_of s m st T) (sym w.1) in
          let same = subst (Tallies es) (same_out m (open_draw d) is_open) h in
          subst (With (Try T) t es) (sym (is ∙ ap reported report)) (search rules)
    ]

abbrev pub is_run : Request → Bool
is_run Run = true
is_run _ = false

-- a request that is no run
pub tally_step : (s : Setting) (t : Two) (es : List Event) (m : Machine) (o : Out) (q : Request) (sc : Response) → m.out ≡ o → is_run q ≡ false → CarriesByDraw s t m o q sc → Tallies es m → With q t es sc
tally_step s t es m o Run sc out plain carries h = cc
tally_step s t es m none Open sc out plain is h = open_step t es m _ _ sc out is h
tally_step s t es m (open_draw d) (Try T) sc out plain is h = try_step s t es m d T sc out is h
tally_step s t es m (open_draw d) GiveUp sc out plain is h = subst (With GiveUp t es) (sym is) (given_up_adds t _ _ _ es m d out h)
tally_step s t es m (met_draw d) Close sc out plain is h = subst (With Close t es) (sym is) (closed_adds t _ _ _ es m d out h)
tally_step s t es m o q sc out plain is h = misplaced_step q t es m sc is h
