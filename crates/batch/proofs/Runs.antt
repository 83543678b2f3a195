-- How a run goes from window to window, and where it ends.
use Rattle.std.proofs.Common.{◌≡◌, ℕ, ◌+◌, ◌^◌, ◌<◌, ◌≤◌, true, false, ◌&&◌, ltb, ◌⊎◌, sym, refl, ap, ◌∙◌, subst, inl, inr, arith}
use Rattle.std.proofs.Math.Pow.{pow_mono}
use Rattle.std.proofs.lemmas.Nat.{pow_below}
use Rattle.std.proofs.lemmas.Bool.{and_from, and_parts, both_ways, cases_Bool, cases_lt, le-leb, le-ltb, lt-ltb, ltb-true}
use Rattle.coupling.specs.Windows.{CanFill}
use Rattle.refusal.specs.Refusals.{given}
use Rattle.batch.specs.Machine.{Machine}
use Rattle.batch.specs.Runs.{AnswersApart, ComesTo, Doubled, LeftBefore, RunReports, after_apart, left_apart}
use Rattle.batch.specs.Tries.{Report, Setting, DrawAndStates, owned, try_report}
use Rattle.batch.proofs.Accepted.{Accepted, answered, same_report}

-- whether b is larger than a and below c
pub between : (a b c : ℕ) → (((ltb a b && ltb b c) ≡ true) × (a < b) × (b < c)) ⊎ (((ltb a b && ltb b c) ≡ false) × (a < b → b < c → ⊥))
between a b c =
    elim (cases_Bool (ltb a b && ltb b c)) [
      | inl t ↦ let parts = and_parts _ _ t in inl (t, ltb-true _ _ parts.0, ltb-true _ _ parts.1)
      | inr t ↦ inr (t, λ larger below. both_ways _ t (and_from _ _ (lt-ltb _ _ larger) (lt-ltb _ _ below)))
    ]

-- between a power of two and the next there is none
pub next_power : (k U j : ℕ) → U ≡ 2 ^ j → U < 2 ^ (k + 1) → (U < 2 ^ k) ⊎ (U ≡ 2 ^ k)
next_power k U j e below =
    elim (cases_lt j k) [
      | inl less ↦ inl (rw e (pow_below j k less))
      | inr more ↦ elim (cases_lt k j) [
        | inl over ↦ let far : 2 ^ (k + 1) ≤ 2 ^ j = pow_mono (omega arith) in absurd (omega (arith, far, e, below))
        | inr none ↦ let same : j ≡ k = omega arith in inr (rw (e, same) refl)
      ]
    ]

module _ (s : Setting) (m : Machine) (st : DrawAndStates) where
  pub number_kept : (T : ℕ) (now : DrawAndStates) → LeftBefore s m st T now → now.draw.number ≡ st.draw.number
  number_kept T now (inl h) = ap (λ (x : DrawAndStates). x.draw.number) h.1
  number_kept T now (inr h) = ap (λ (x : DrawAndStates). x.draw.number) h.2

  pub own_kept : (T : ℕ) (now : DrawAndStates) → LeftBefore s m st T now → owned s now ≡ owned s st
  own_kept T now (inl h) = ap (owned s) h.1
  own_kept T now (inr h) = ap (owned s) h.2

  -- the largest window tried has not become smaller, and is below T if it has changed
  pub tried_up : (T : ℕ) (now : DrawAndStates) → LeftBefore s m st T now → st.draw.tried ≤ now.draw.tried
  tried_up T now (inl h) = let e = ap (λ (x : DrawAndStates). x.draw.tried) h.1 in omega (arith, e)
  tried_up T now (inr h) = let e = ap (λ (x : DrawAndStates). x.draw.tried) h.2 in omega (arith, e, h.1.doubled.larger)

  accepted_back : (T : ℕ) (now : DrawAndStates) → LeftBefore s m st T now → (W : ℕ) → Accepted s m now W → Accepted s m st W
  accepted_back T now left W a =
      let same = number_kept T now left in
      record {
        own = sym (own_kept T now left) ∙ a.own;
        larger = omega (arith, tried_up T now left, a.larger);
        fills = subst (λ (n : ℕ). CanFill s.source m.stretch n W) same a.fills;
      }

  stays : (T : ℕ) (now : DrawAndStates) → LeftBefore s m st T now → (W : ℕ) (report : Report) → after_apart now W report ≡ after_apart st W report
  stays T now (inl h) W report = ap (λ (x : DrawAndStates). after_apart x W report) h.1
  stays T now (inr h) W report = ap (λ (x : DrawAndStates). after_apart x W report) h.2

  -- a doubled window that was apart
  pub goes_on : (k : ℕ) (now after : DrawAndStates) → ComesTo s m st (2 ^ k) now → now.draw.tried < 2 ^ k → 2 ^ k < m.stretch → AnswersApart s m now (2 ^ k) → after ≡ left_apart s m now (2 ^ k) → ComesTo s m st (2 ^ (k + 1)) after
  goes_on k now after comes larger below apart after_is =
      let left = comes.left in
      let a = answered s m now (2 ^ k) false apart in
      let b = accepted_back (2 ^ k) now left (2 ^ k) a in
      let same = same_report s m st now (2 ^ k) (number_kept (2 ^ k) now left) a b in
      let up = tried_up (2 ^ k) now left in
      record {
        apart_below =
            λ U doubled under.
            elim (next_power k U doubled.power.0 doubled.power.1 under) [
              | inl less ↦ comes.apart_below U doubled less
              | inr e ↦ subst (AnswersApart s m st) (sym e) (ap (λ (r : Report). r.answer) (sym same) ∙ apart)
            ];
        left = inr (
          2 ^ k,
          record {
            doubled = record { larger = omega (arith, up, larger); below = below; power = (k, refl) };
            under = pow_below k (k + 1) (omega arith);
            greatest = λ V doubled under. elim (next_power k V doubled.power.0 doubled.power.1 under) [
              | inl less ↦ omega (arith, less)
              | inr e ↦ omega (arith, e)
            ];
          },
          after_is ∙ ap (after_apart now (2 ^ k)) same ∙ stays (2 ^ k) now left (2 ^ k) (try_report s m st (2 ^ k)),
        );
      }

  -- a window that is passed over is not doubled
  pub not_doubled : (k : ℕ) (now : DrawAndStates) → LeftBefore s m st (2 ^ k) now → (now.draw.tried < 2 ^ k → 2 ^ k < m.stretch → ⊥) → Doubled m.stretch st.draw.tried (2 ^ k) → ⊥
  not_doubled k now (inl h) over doubled = let e = ap (λ (x : DrawAndStates). x.draw.tried) h.1 in over (omega (arith, e, doubled.larger)) doubled.below
  not_doubled k now (inr h) over doubled = let e = ap (λ (x : DrawAndStates). x.draw.tried) h.2 in over (omega (arith, e, h.1.under)) doubled.below

  pub passes : (k : ℕ) (now : DrawAndStates) → ComesTo s m st (2 ^ k) now → (now.draw.tried < 2 ^ k → 2 ^ k < m.stretch → ⊥) → ComesTo s m st (2 ^ (k + 1)) now
  passes k now comes over =
      let none = not_doubled k now comes.left over in
      let under : (U : ℕ) → Doubled m.stretch st.draw.tried U → U < 2 ^ (k + 1) → U < 2 ^ k
      = λ U doubled below. elim (next_power k U doubled.power.0 doubled.power.1 below) [
        | inl less ↦ less
        | inr e ↦ absurd (none (subst (Doubled m.stretch st.draw.tried) e doubled))
      ] in
      record {
        apart_below = λ U doubled below. comes.apart_below U doubled (under U doubled below);
        left =
            elim comes.left [
              | inl h ↦ inl (λ U doubled below. h.0 U doubled (under U doubled below), h.1)
              | inr h ↦ inr (
                h.0,
                record {
                  doubled = h.1.doubled;
                  under = omega (arith, h.1.under, pow_below k (k + 1) (omega arith));
                  greatest = λ V doubled below. h.1.greatest V doubled (under V doubled below);
                },
                h.2,
              )
            ];
      }

  -- what a run comes to before its last window
  pub to_stretch : (now : DrawAndStates) → ComesTo s m st (2 ^ 20) now → m.stretch ≤ 2 ^ 20 → ComesTo s m st m.stretch now
  to_stretch now comes fits =
      record {
        apart_below = λ U doubled below. comes.apart_below U doubled (omega (arith, below, fits));
        left =
            elim comes.left [
              | inl h ↦ inl (λ U doubled below. h.0 U doubled (omega (arith, below, fits)), h.1)
              | inr h ↦ inr (
                h.0,
                record {
                  doubled = h.1.doubled;
                  under = h.1.doubled.below;
                  greatest = λ V doubled below. h.1.greatest V doubled (omega (arith, below, fits));
                },
                h.2,
              )
            ];
      }

  -- nothing has changed where the states are not the rule's, or the stretch was tried
  unmoved : (T : ℕ) (now : DrawAndStates) → ComesTo s m st T now → ((U : ℕ) → Doubled m.stretch st.draw.tried U → AnswersApart s m st U → ⊥) → now ≡ st
  unmoved T now comes none =
      elim comes.left [
        | inl h ↦ h.1
        | inr h ↦ absurd (none h.0 h.1.doubled (comes.apart_below h.0 h.1.doubled h.1.under))
      ]

  foreign_unmoved : (T : ℕ) (now : DrawAndStates) → ComesTo s m st T now → owned s st ≡ false → now ≡ st
  foreign_unmoved T now comes foreign = unmoved T now comes (λ U doubled apart. both_ways (owned s st) foreign (answered s m st U false apart).own)

  -- the run ends at a doubled window that is not apart
  pub ends_early : (k : ℕ) (now : DrawAndStates) (report : Report) → ComesTo s m st (2 ^ k) now → now.draw.tried < 2 ^ k → 2 ^ k < m.stretch → report ≡ try_report s m now (2 ^ k) → (report.answer ≡ given false → ⊥) → RunReports s m st report
  ends_early k now report comes larger below reports ends =
      let up = tried_up (2 ^ k) now comes.left in
      elim (cases_Bool (owned s st)) [
        | inl own ↦ let within = lt-ltb st.draw.tried m.stretch (omega (arith, up, larger, below)) in
            rw own rw within (
              2 ^ k,
              record {
                now = now;
                scheduled = inl (record { larger = omega (arith, up, larger); below = below; power = (k, refl) });
                comes = comes;
                last = inr ends;
                reports = reports;
              },
            )
        | inr foreign ↦ let same = foreign_unmoved (2 ^ k) now comes foreign in
            rw foreign (reports ∙ ap (λ (x : DrawAndStates). try_report s m x (2 ^ k)) same ∙ rw foreign refl)
      ]

  -- the run ends at the stretch
  pub ends_last : (now : DrawAndStates) (report : Report) → ComesTo s m st (2 ^ 20) now → 1 ≤ m.stretch → m.stretch ≤ 2 ^ 20 → report ≡ try_report s m now m.stretch → RunReports s m st report
  ends_last now report comes some fits reports =
      elim (cases_Bool (owned s st)) [
        | inl own ↦ elim (cases_lt st.draw.tried m.stretch) [
          | inl more ↦ rw own rw (lt-ltb _ _ more)
              (m.stretch, record { now = now; scheduled = inr (refl, more); comes = to_stretch now comes fits; last = inl refl; reports = reports })
          | inr done ↦ let same = unmoved (2 ^ 20) now comes (λ U doubled apart. omega (arith, doubled.larger, doubled.below, done)) in
              let over = le-ltb st.draw.tried m.stretch done in
              let range = and_from _ _ (le-leb 1 m.stretch some) (le-leb m.stretch m.stretch (omega arith)) in
              rw own rw over (reports ∙ ap (λ (x : DrawAndStates). try_report s m x m.stretch) same ∙ rw own rw range rw over refl)
        ]
        | inr foreign ↦ let same = foreign_unmoved (2 ^ 20) now comes foreign in
            rw foreign (reports ∙ ap (λ (x : DrawAndStates). try_report s m x m.stretch) same ∙ rw foreign refl)
      ]

  -- at the start
  pub starts : ComesTo s m st (2 ^ 0) st
  starts =
      let none : (U : ℕ) → Doubled m.stretch st.draw.tried U → U < 2 ^ 0 → ⊥ = λ U doubled below. omega (arith, doubled.larger, below) in
      record { apart_below = λ U doubled below. absurd (none U doubled below); left = inl (none, refl) }
