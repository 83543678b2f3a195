-- What a request that was answered met or apart has found, and that no request changes the stretch.
use Rattle.std.proofs.Common.{◌≡◌, ℕ, ◌≤◌, Bool, true, false, ltb, ◌⊎◌, List, sym, refl, ap, ◌∙◌, inl, inr, arith}
use Rattle.std.proofs.lemmas.Bool.{cases_Bool}
use Rattle.coupling.proofs.Filled.{window_is_words}
use Rattle.coupling.proofs.Laws.{Laws}
use Rattle.coupling.proofs.Samples.{larger_windows}
use Rattle.coupling.proofs.Sandwich.{apart_where_some_differ, meets_where_all_end}
use Rattle.coupling.specs.Ends.{AllEndIn}
use Rattle.coupling.specs.Lead.{Ends, apart_at, met_in, outcome}
use Rattle.coupling.specs.Windows.{CanFill}
use Rattle.lattice.specs.Faults.{state_refusal}
use Rattle.lattice.specs.declared.fault.StateFault.TheVariants.{Foreign}
use Rattle.refusal.specs.Refusals.{Answer, Refusal, given, provided, refused}
use Rattle.sources.specs.Sources.{Sound}
use Rattle.batch.specs.Faults.{tried_refusal}
use Rattle.batch.specs.Machine.{Draw, Machine, Out, left_after, met_draw, none, one_opened, open_answer, open_draw}
use Rattle.batch.specs.Ends.{Two}
use Rattle.batch.specs.Requests.{CarriesByDraw, Said, Response, states_kept, reported, said_apart, said_met, said_open}
use Rattle.batch.specs.Runs.{EndsAt, RunReports}
use Rattle.batch.specs.Samples.{ApartExactlyIfTwoDiffer, Parted, Sampled, words_of}
use Rattle.batch.specs.Tallies.{window_of}
use Rattle.batch.specs.Histories.{Event, event, is_tried}
use Rattle.batch.specs.Tries.{Report, Setting, DrawAndStates, ends_report, owned, refused_report, report_of, tried_to, try_report, words_of_try, with_two}
use Rattle.batch.specs.declared.stage.Request.{Request}
use Rattle.batch.specs.declared.stage.Request.TheVariants.{Open, Try, Run, Close}
use Rattle.batch.proofs.Accepted.{accepted_report, accepted_when, which}

abbrev pub Exact : Setting → ℕ → Event → Type 0
Exact s stretch e =
    (e.response.said ≡ said_met → Sampled s stretch e)
    × (e.response.said ≡ said_apart → Parted s stretch e)
    × (is_tried e.response.said ≡ true → ApartExactlyIfTwoDiffer s stretch e)

-- an answer that is none of a try
pub quiet : (s : Setting) (stretch : ℕ) (e : Event) → is_tried e.response.said ≡ false → Exact s stretch e
quiet s stretch e untried = (λ met. cc, λ apart. cc, λ tried. cc)

-- a run reports as a try does, or is refused
pub run_report : (s : Setting) (m : Machine) (st : DrawAndStates) (report : Report) → RunReports s m st report → ((now : DrawAndStates) × (T : ℕ) × (report ≡ try_report s m now T)) ⊎ ((c : Refusal) × (report ≡ refused_report m st c))
run_report s m st report h =
    elim (cases_Bool (owned s st)) [
      | inl own ↦ elim (cases_Bool (ltb st.draw.tried m.stretch)) [
        | inl more ↦ let ends : (T : ℕ) × EndsAt s m st report T = rw more at (rw own at h) in
            inl (ends.1.now, ends.0, ends.1.reports)
        | inr done ↦ inr (tried_refusal, rw done at (rw own at h))
      ]
      | inr foreign ↦ inr (state_refusal Foreign, rw foreign at h)
    ]

module _ (s : Setting) (laws : Laws s.rule) (sound : Sound s.source) where
  -- every start ends in y, from window T and from larger ones
  arrives_in : (stretch : ℕ) (d : Draw) (T : ℕ) (y : List ℕ) → outcome s.rule (words_of s stretch d T) ≡ met_in y → (U : ℕ) → T ≤ U → CanFill s.source stretch d.number U → AllEndIn s.rule (words_of s stretch d U) y
  arrives_in stretch d T y e U upto fill =
      (meets_where_all_end s.rule laws (words_of s stretch d U) (window_is_words s.source sound stretch d.number U fill) y).0
      (larger_windows s.rule laws s.source sound stretch d.number T U fill upto y e)

  ends_exact : (q : Request) (t : Two) (m : Machine) (d : Draw) (T : ℕ) (ends : Ends) → ((U : ℕ) → q ≡ Try U → T ≡ U) → CanFill s.source m.stretch d.number T → outcome s.rule (words_of s m.stretch d T) ≡ ends → Exact s m.stretch (event q t (reported (ends_report m d T ends)))
  ends_exact q t m d T (met_in y) window fills e =
      let arrives = arrives_in m.stretch d T y e in (
        λ _. record { draw = tried_to d T; out = refl; window = window; fills = fills; both = refl; by_words = e; arrives = arrives },
        λ apart. cc,
        λ _ c out.
            let same : c ≡ tried_to d T = cc in
            let all = arrives T (omega arith) fills in
            rw same (λ apart. cc, λ apart. absurd (apart.4 (all apart.0 apart.2 ∙ sym (all apart.1 apart.3)))),
      )
  ends_exact q t m d T (apart_at x y) window fills e =
      let differ = (apart_where_some_differ s.rule laws (words_of s m.stretch d T) (window_is_words s.source sound m.stretch d.number T fills)).0 x y e in (
        λ met. cc,
        λ _. record { draw = tried_to d T; out = refl; window = window; fills = fills; by_words = e },
        λ _ c out.
            let same : c ≡ tried_to d T = cc in
            rw same (λ _. differ, λ _. refl),
      )

  -- a try, of the window that its request names
  try_exact : (q : Request) (t : Two) (m : Machine) (st : DrawAndStates) (T : ℕ) (sc : Response) → ((U : ℕ) → q ≡ Try U → T ≡ U) → sc ≡ reported (try_report s m st T) → Exact s m.stretch (event q t sc)
  try_exact q t m st T sc window is =
      elim (which (words_of_try s m st T)) [
        | inl w ↦ let a = (accepted_when s m st T w.0 w.1).0 in
            rw (is, accepted_report s m st T a) (ends_exact q t m st.draw T _ window a.fills refl)
        | inr w ↦ let report = ap (report_of s m st T) (sym w.1) in
            quiet s m.stretch (event q t sc) (ap (λ (x : Response). is_tried x.said) (is ∙ ap reported report))
      ]

  run_exact : (t : Two) (m : Machine) (st : DrawAndStates) (report : Report) (sc : Response) → RunReports s m st report → sc ≡ reported report → Exact s m.stretch (event Run t sc)
  run_exact t m st report sc run is =
      elim (run_report s m st report run) [
        | inl h ↦ try_exact Run t m h.0 h.1 sc (λ U e. cc) (is ∙ ap reported h.2)
        | inr h ↦ quiet s m.stretch (event Run t sc) (ap (λ (x : Response). is_tried x.said) (is ∙ ap reported h.1))
      ]

  beside : (q : Request) (stretch : ℕ) (sc : Response) (said : Said) (m : Machine) (t : Two) → is_tried said ≡ false → sc ≡ states_kept said m t → Exact s stretch (event q t sc)
  beside q stretch sc said m t untried is = quiet s stretch (event q t sc) (ap (λ (x : Response). is_tried x.said) is ∙ untried)

  no_try_in_open : (a : Answer Machine) → is_tried (said_open a) ≡ false
  no_try_in_open (given m) = refl
  no_try_in_open (refused c) = refl

  pub carried_exact : (t : Two) (m : Machine) (o : Out) (q : Request) (sc : Response) → CarriesByDraw s t m o q sc → Exact s m.stretch (event q t sc)
  carried_exact t m none Open sc is = beside Open m.stretch sc _ _ t (no_try_in_open (open_answer m)) is
  carried_exact t m (open_draw d) (Try T) sc is = try_exact (Try T) t m (with_two d t) T sc (λ U e. ap window_of e) is
  carried_exact t m (open_draw d) Run sc h = run_exact t m (with_two d t) h.0 sc h.1 h.2
  carried_exact t m (met_draw d) Close sc is = beside Close m.stretch sc _ _ t refl is
  carried_exact t m o q sc is = beside q m.stretch sc _ _ t refl is

ends_stretch : (m : Machine) (d : Draw) (T : ℕ) (ends : Ends) → (ends_report m d T ends).machine.stretch ≡ m.stretch
ends_stretch m d T (met_in y) = refl
ends_stretch m d T (apart_at x y) = refl

report_stretch : (s : Setting) (m : Machine) (st : DrawAndStates) (T : ℕ) (a : Answer (List ℕ)) → (report_of s m st T a).machine.stretch ≡ m.stretch
report_stretch s m st T (given ws) = ends_stretch m st.draw T (outcome s.rule ws)
report_stretch s m st T (refused c) = refl

try_stretch : (s : Setting) (m : Machine) (st : DrawAndStates) (T : ℕ) → (try_report s m st T).machine.stretch ≡ m.stretch
try_stretch s m st T = report_stretch s m st T (words_of_try s m st T)

run_stretch : (s : Setting) (m : Machine) (st : DrawAndStates) (report : Report) → RunReports s m st report → report.machine.stretch ≡ m.stretch
run_stretch s m st report run =
    elim (run_report s m st report run) [
      | inl h ↦ ap (λ (r : Report). r.machine.stretch) h.2 ∙ try_stretch s m h.0 h.1
      | inr h ↦ ap (λ (r : Report). r.machine.stretch) h.1
    ]

open_stretch : (m : Machine) (b : Bool) (c : Refusal) → (left_after (provided b c (given (one_opened m))) m).stretch ≡ m.stretch
open_stretch m true c = refl
open_stretch m false c = refl

-- no request changes the stretch
pub carried_stretch : (s : Setting) (t : Two) (m : Machine) (o : Out) (q : Request) (sc : Response) → CarriesByDraw s t m o q sc → sc.machine.stretch ≡ m.stretch
carried_stretch s t m none Open sc is = ap (λ (x : Response). x.machine.stretch) is ∙ open_stretch m _ _
carried_stretch s t m (open_draw d) (Try T) sc is = ap (λ (x : Response). x.machine.stretch) is ∙ try_stretch s m (with_two d t) T
carried_stretch s t m (open_draw d) Run sc h = ap (λ (x : Response). x.machine.stretch) h.2 ∙ run_stretch s m (with_two d t) h.0 h.1
carried_stretch s t m (met_draw d) Close sc is = rw is
carried_stretch s t m o q sc is = rw is
