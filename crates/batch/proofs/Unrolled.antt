-- A run as its tries.
use Rattle.std.proofs.Common.{◌≡◌, ℕ, zero, suc, ◌+◌, ◌^◌, ◌<◌, ◌≤◌, false, ltb, ◌⊎◌, List, [], ◌∷◌, ◌++◌, sym, refl, ap, ◌∙◌, subst, inl, inr, arith}
use Rattle.std.proofs.lemmas.Nat.{pow_below}
use Rattle.std.proofs.lemmas.Bool.{and_from, both_ways, cases_Bool, le-leb, lt-ltb}
use Rattle.coupling.specs.Windows.{CanFill}
use Rattle.lattice.specs.Faults.{state_refusal}
use Rattle.lattice.specs.declared.fault.StateFault.TheVariants.{Foreign}
use Rattle.batch.specs.Faults.{tried_refusal}
use Rattle.batch.specs.Histories.{Event, History, event}
use Rattle.batch.specs.Machine.{Machine, open_draw, with_out}
use Rattle.batch.specs.Requests.{reported, said_try}
use Rattle.batch.specs.Runs.{AnswersApart, ComesTo, Doubled, EndsAt, LeftBefore, RunReports, left_apart}
use Rattle.batch.specs.Tallies.{DoubledTries, Tallies, TriesOfRun}
use Rattle.batch.specs.Tries.{Report, Setting, DrawAndStates, owned, refused_report, try_report}
use Rattle.batch.specs.declared.stage.Request.TheVariants.{Try}
use Rattle.batch.proofs.Accepted.{Accepted, answered, apart_machine, same_report}
use Rattle.batch.proofs.Runs.{between, goes_on, next_power, not_doubled, number_kept, own_kept, passes, starts, to_stretch, tried_up}
use Rattle.batch.proofs.Tallies.{same_out, try_step}

-- what was left before a window is one thing
left_once : (s : Setting) (m : Machine) (st : DrawAndStates) (T : ℕ) (a b : DrawAndStates) → LeftBefore s m st T a → LeftBefore s m st T b → a ≡ b
left_once s m st T a b (inl h) (inl k) = h.1 ∙ sym k.1
left_once s m st T a b (inl h) (inr k) = absurd (h.0 k.0 k.1.doubled k.1.under)
left_once s m st T a b (inr h) (inl k) = absurd (k.0 h.0 h.1.doubled h.1.under)
left_once s m st T a b (inr h) (inr k) =
    let same : h.0 ≡ k.0 = omega (arith, h.1.greatest k.0 k.1.doubled k.1.under, k.1.greatest h.0 h.1.doubled h.1.under) in
    h.2 ∙ ap (left_apart s m st) same ∙ sym k.2

module _ (s : Setting) (m : Machine) (st : DrawAndStates) (gs : List Event) where
  -- the tries up to a power of two
  record Climbed (k : ℕ) : Type 0 where
    pub now : DrawAndStates
    pub tries : List Event
    pub comes : ComesTo s m st (2 ^ k) now
    pub history : History s (tries ++ gs) (with_out m (open_draw now.draw))
    pub tallies : Tallies (tries ++ gs) (with_out m (open_draw now.draw))
    pub doubled : DoubledTries m.stretch st.draw.tried (2 ^ k) tries

  begin : m.out ≡ open_draw st.draw → History s gs m → Tallies gs m → Climbed 0
  begin is_open history tallies =
      let same = same_out m (open_draw st.draw) is_open in
      record {
        now = st;
        tries = [];
        comes = starts s m st;
        history = subst (History s gs) same history;
        tallies = subst (Tallies gs) same tallies;
        doubled = record { each = λ e has. absurd has; all = λ U doubled under. absurd (omega (arith, doubled.larger, under)) };
      }

  -- a doubled window more
  another : (k : ℕ) (c : Climbed k) → c.now.draw.tried < 2 ^ k → 2 ^ k < m.stretch → AnswersApart s m st (2 ^ k) → Climbed (k + 1)
  another k c larger below apart =
      let now = c.now in
      let left = c.comes.left in
      let a = answered s m st (2 ^ k) false apart in
      let number = number_kept s m st (2 ^ k) now left in
      let b : Accepted s m now (2 ^ k)
      = record { own = own_kept s m st (2 ^ k) now left ∙ a.own; larger = larger; fills = subst (λ (n : ℕ). CanFill s.source m.stretch n (2 ^ k)) (sym number) a.fills } in
      let same = same_report s m st now (2 ^ k) number b a in
      let here = ap (λ (r : Report). r.answer) same ∙ apart in
      let sc = reported (try_report s m now (2 ^ k)) in
      let after = apart_machine s m now (2 ^ k) here in
      record {
        now = left_apart s m now (2 ^ k);
        tries = event (Try (2 ^ k)) now.states sc ∷ c.tries;
        comes = goes_on s m st k now _ c.comes larger below here refl;
        history = (with_out m (open_draw now.draw), c.history, refl, sym after);
        tallies = subst (Tallies (event (Try (2 ^ k)) now.states sc ∷ (c.tries ++ gs))) after (try_step s now.states (c.tries ++ gs) (with_out m (open_draw now.draw)) now.draw (2 ^ k) sc refl refl c.tallies);
        doubled =
            record {
              each =
                  λ e has.
                  elim has [
                    | inl is ↦ (
                      2 ^ k,
                      ap (λ (x : Event). x.request) is,
                      record { larger = omega (arith, tried_up s m st (2 ^ k) now left, larger); below = below; power = (k, refl) },
                      pow_below k (k + 1) (omega arith),
                      ap (λ (x : Event). x.response.said) is ∙ ap said_try here,
                    )
                    | inr older ↦ let d = c.doubled.each e older in (d.0, d.1, d.2, omega (arith, d.3, pow_below k (k + 1) (omega arith)), d.4)
                  ];
              all =
                  λ U doubled under.
                  elim (next_power k U doubled.power.0 doubled.power.1 under) [
                    | inl less ↦ let t = c.doubled.all U doubled less in (t.0, inr t.1, t.2)
                    | inr is ↦ (event (Try (2 ^ k)) now.states sc, inl refl, ap (λ (n : ℕ). Try n) (sym is))
                  ];
            };
      }

  -- a window that is passed over
  skipped : (k : ℕ) (c : Climbed k) → (c.now.draw.tried < 2 ^ k → 2 ^ k < m.stretch → ⊥) → Climbed (k + 1)
  skipped k c over =
      let comes = passes s m st k c.now c.comes over in
      let up = pow_below k (k + 1) (omega arith) in
      let none = not_doubled s m st k c.now c.comes.left over in
      record {
        now = c.now;
        tries = c.tries;
        comes = comes;
        history = c.history;
        tallies = c.tallies;
        doubled =
            record {
              each = λ e has. let d = c.doubled.each e has in (d.0, d.1, d.2, omega (arith, d.3, up), d.4);
              all =
                  λ U doubled under.
                  elim (next_power k U doubled.power.0 doubled.power.1 under) [
                    | inl less ↦ c.doubled.all U doubled less
                    | inr is ↦ absurd (none (subst (Doubled m.stretch st.draw.tried) is doubled))
                  ];
            };
      }

  climb_to : (k : ℕ) → m.out ≡ open_draw st.draw → History s gs m → Tallies gs m → ((U : ℕ) → Doubled m.stretch st.draw.tried U → U < 2 ^ k → AnswersApart s m st U) → Climbed k
  climb_to zero is_open history tallies apart = begin is_open history tallies
  climb_to (suc k) is_open history tallies apart =
      let up : 2 ^ k < 2 ^ suc k = pow_below k (suc k) (omega arith) in
      let c = climb_to k is_open history tallies (λ U doubled under. apart U doubled (omega (arith, under, up))) in
      let more : k + 1 ≡ suc k = omega arith in
      subst Climbed more
      (elim (between c.now.draw.tried (2 ^ k) m.stretch) [
        | inl t ↦ another k c t.1 t.2 (apart (2 ^ k) (record { larger = omega (arith, tried_up s m st (2 ^ k) c.now c.comes.left, t.1); below = t.2; power = (k, refl) }) up)
        | inr t ↦ skipped k c t.1
      ])

  -- a run's tries lead where it does
  abbrev AsTries : Report → Type 0
  AsTries report =
      (ts : List Event) × TriesOfRun m.stretch st.draw.tried (reported report) ts × History s (ts ++ gs) report.machine × Tallies (ts ++ gs) report.machine

  last_try : (T : ℕ) (now : DrawAndStates) (report : Report) (ts : List Event) → ((T ≡ m.stretch) ⊎ Doubled m.stretch st.draw.tried T) → DoubledTries m.stretch st.draw.tried T ts → History s (ts ++ gs) (with_out m (open_draw now.draw)) → Tallies (ts ++ gs) (with_out m (open_draw now.draw)) → report ≡ try_report s m now T → AsTries report
  last_try T now report ts window doubled history tallies reports = (
    event (Try T) now.states (reported report) ∷ ts,
    (T, window, refl, refl, doubled),
    (with_out m (open_draw now.draw), history, ap reported reports, refl),
    try_step s now.states (ts ++ gs) (with_out m (open_draw now.draw)) now.draw T (reported report) refl (ap reported reports) tallies,
  )

  -- the run that goes through its windows
  ran_through : m.out ≡ open_draw st.draw → History s gs m → Tallies gs m → m.stretch ≤ 2 ^ 20 → (report : Report) (T : ℕ) → EndsAt s m st report T → AsTries report
  ran_through is_open history tallies fits report T ends =
      elim ends.scheduled [
        | inl d ↦ let e = d.power.1 in
            let comes = subst (λ (n : ℕ). ComesTo s m st n ends.now) e ends.comes in
            let c = climb_to d.power.0 is_open history tallies comes.apart_below in
            let same = left_once s m st (2 ^ d.power.0) c.now ends.now c.comes.left comes.left in
            last_try T c.now report c.tries (inr d) (subst (λ (n : ℕ). DoubledTries m.stretch st.draw.tried n c.tries) (sym e) c.doubled) c.history c.tallies
            (ends.reports ∙ ap (λ (x : DrawAndStates). try_report s m x T) (sym same))
        | inr last ↦ let comes = subst (λ (n : ℕ). ComesTo s m st n ends.now) last.0 ends.comes in
            let c = climb_to 20 is_open history tallies (λ U doubled under. comes.apart_below U doubled doubled.below) in
            let there = to_stretch s m st c.now c.comes fits in
            let same = left_once s m st m.stretch c.now ends.now there.left comes.left in
            last_try T c.now report c.tries (inl last.0)
            (record {
              each = λ e has. let d = c.doubled.each e has in (d.0, d.1, d.2, omega (arith, d.2.below, last.0), d.4);
              all = λ U doubled under. c.doubled.all U doubled (omega (arith, doubled.below, fits));
            })
            c.history c.tallies
            (ends.reports ∙ ap (λ (x : DrawAndStates). try_report s m x T) (sym same))
      ]

  -- the least doubled window, if there is one
  abbrev NoDoubledBelow : ℕ → Type 0
  NoDoubledBelow n = (U : ℕ) → Doubled m.stretch st.draw.tried U → U < n → ⊥

  least : (k : ℕ) → NoDoubledBelow (2 ^ k) ⊎ ((U : ℕ) × Doubled m.stretch st.draw.tried U × NoDoubledBelow U)
  least zero = inl (λ U doubled under. omega (arith, doubled.larger, under))
  least (suc k) =
      elim (least k) [
        | inl none ↦ elim (between st.draw.tried (2 ^ k) m.stretch) [
          | inl t ↦ inr (2 ^ k, record { larger = t.1; below = t.2; power = (k, refl) }, none)
          | inr t ↦ let more : suc k ≡ k + 1 = omega arith in
              inl
              (λ U doubled under.
              elim (next_power k U doubled.power.0 doubled.power.1 (subst (λ (n : ℕ). U < 2 ^ n) more under)) [
                | inl less ↦ none U doubled less
                | inr is ↦ let here = subst (Doubled m.stretch st.draw.tried) is doubled in t.1 here.larger here.below
              ])
        ]
        | inr h ↦ inr h
      ]

  untried : (T : ℕ) → NoDoubledBelow T → DoubledTries m.stretch st.draw.tried T []
  untried T none = record { each = λ e has. absurd has; all = λ U doubled under. absurd (none U doubled under) }

  pub run_as_tries : m.out ≡ open_draw st.draw → History s gs m → Tallies gs m → 1 ≤ m.stretch → m.stretch ≤ 2 ^ 20 → (report : Report) → RunReports s m st report → AsTries report
  run_as_tries is_open history tallies some fits report run =
      let same = same_out m (open_draw st.draw) is_open in
      let history_here = subst (History s gs) same history in
      let tallies_here = subst (Tallies gs) same tallies in
      elim (cases_Bool (owned s st)) [
        | inl own ↦ elim (cases_Bool (ltb st.draw.tried m.stretch)) [
          | inl more ↦ let ends : (T : ℕ) × EndsAt s m st report T = rw more at (rw own at run) in
              ran_through is_open history tallies fits report ends.0 ends.1
          | inr done ↦ let refusal : report ≡ refused_report m st tried_refusal = rw done at (rw own at run) in
              let range = and_from _ _ (le-leb 1 m.stretch some) (le-leb m.stretch m.stretch (omega arith)) in
              let tried : try_report s m st m.stretch ≡ refused_report m st tried_refusal = rw own rw range rw done refl in
              last_try m.stretch st report [] (inl refl) (untried m.stretch (λ U doubled under. both_ways _ done (lt-ltb _ _ (omega (arith, doubled.larger, doubled.below))))) history_here tallies_here (refusal ∙ sym tried)
        ]
        | inr foreign ↦ let refusal : report ≡ refused_report m st (state_refusal Foreign) = rw foreign at run in
            let tried : (T : ℕ) → try_report s m st T ≡ refused_report m st (state_refusal Foreign) = λ T. rw foreign refl in
            elim (least 20) [
              | inl none ↦ last_try m.stretch st report [] (inl refl) (untried m.stretch (λ U doubled under. none U doubled (omega (arith, under, fits)))) history_here tallies_here (refusal ∙ sym (tried m.stretch))
              | inr first ↦ last_try first.0 st report [] (inr first.1) (untried first.0 first.2) history_here tallies_here (refusal ∙ sym (tried first.0))
            ]
      ]
