-- The turns of a run's loop, in terms of the draw's values.
use Rattle.std.proofs.Common.{◌≡◌, ℕ, ◌+◌, ◌^◌, false, List, sym, ap, ◌∙◌, subst, inl, inr}
use Rattle.lattice.specs.Grid.{Extent}
use Rattle.refusal.specs.Refusals.{given}
use Rattle.batch.specs.Ends.{SameExtents, Two, two}
use Rattle.batch.specs.Machine.{Draw, Machine, none, open_draw, with_out}
use Rattle.batch.specs.Meanings.{open_machine, open_one, with_draw}
use Rattle.batch.specs.Runs.{ComesTo, RunReports, doubled_report}
use Rattle.batch.specs.Tries.{Report, Setting, DrawAndStates, try_report, with_two}
use Rattle.batch.specs.declared.draws.Batch.{Batch}
use Rattle.batch.specs.declared.draws.OpenDraw.{OpenDraw}
use Rattle.batch.proofs.Accepted.{apart_machine}
use Rattle.batch.proofs.Runs.{between, ends_early, ends_last, goes_on, passes}

same_draw : (d e : Draw) → open_draw d ≡ open_draw e → d ≡ e
same_draw d e same = cc

same_draw_and_states : (d d' : Draw) (e e' f f' : Extent) (x x' y y' : List ℕ) → d ≡ d' → e ≡ e' → f ≡ f' → x ≡ x' → y ≡ y' → with_two d (two e f x y) ≡ with_two d' (two e' f' x' y')
same_draw_and_states d d' e e' f f' x x' y y' hd he hf hx hy = cc

-- the same batch, so the same report
doubled_same : (s : Setting) (d now : OpenDraw) (st : DrawAndStates) (T W : ℕ) → now.batch ≡ d.batch → T ≡ W → doubled_report s (open_machine now) st T ≡ doubled_report s (open_machine d) st W
doubled_same s d now st T W same window =
    ap (λ (b : Batch). doubled_report s (with_draw b none) st T) same
    ∙ ap (λ (n : ℕ). doubled_report s (open_machine d) st n) window

module _ (s : Setting) (d now : OpenDraw) (t tn : Two) where
  abbrev first : DrawAndStates
  first = with_two (open_one d) t

  abbrev here : DrawAndStates
  here = with_two (open_one now) tn

  abbrev before : Machine
  before = open_machine d

  pub again : (after : OpenDraw) (ta : Two) (k T : ℕ) → T ≡ 2 ^ k → now.batch ≡ d.batch → SameExtents tn ta → ComesTo s before first (2 ^ k) here → ◌≡◌ {A = Report} (record { answer = given false; machine = open_machine after; low = ta.low; high = ta.high }) (doubled_report s (open_machine now) here T) → ComesTo s before first (2 ^ (k + 1)) (with_two (open_one after) ta)
  again after ta k T window same keeps comes reports =
      let doubled = reports ∙ doubled_same s d now here T (2 ^ k) same window in
      elim (between now.tried (2 ^ k) d.batch.stretch) [
        | inl t ↦ let tried : ◌≡◌ {A = Report} (record { answer = given false; machine = open_machine after; low = ta.low; high = ta.high }) (try_report s before here (2 ^ k)) = rw t.0 at doubled in
            let apart = sym (ap (λ (r : Report). r.answer) tried) in
            let draw = same_draw _ _ (ap (λ (r : Report). r.machine.out) tried ∙ ap (λ (n : Machine). n.out) (apart_machine s before here (2 ^ k) apart)) in
            goes_on s before first k here (with_two (open_one after) ta) comes t.1 t.2 apart
            (same_draw_and_states _ _ _ _ _ _ _ _ _ _ draw keeps.0 keeps.1 (ap (λ (r : Report). r.low) tried) (ap (λ (r : Report). r.high) tried))
        | inr t ↦ let passed : ◌≡◌ {A = Report} (record { answer = given false; machine = open_machine after; low = ta.low; high = ta.high }) (record { answer = given false; machine = with_out before (open_draw here.draw); low = tn.low; high = tn.high }) = rw t.0 at doubled in
            let draw = same_draw _ _ (ap (λ (r : Report). r.machine.out) passed) in
            let on = passes s before first k here comes t.1 in
            subst (ComesTo s before first (2 ^ (k + 1))) (sym (same_draw_and_states _ _ _ _ _ _ _ _ _ _ draw keeps.0 keeps.1 (ap (λ (r : Report). r.low) passed) (ap (λ (r : Report). r.high) passed))) on
      ]

  pub early : (k T : ℕ) (report : Report) → T ≡ 2 ^ k → now.batch ≡ d.batch → ComesTo s before first (2 ^ k) here → report ≡ doubled_report s (open_machine now) here T → (report.answer ≡ given false → ⊥) → RunReports s before first report
  early k T report window same comes reports ends =
      let doubled = reports ∙ doubled_same s d now here T (2 ^ k) same window in
      elim (between now.tried (2 ^ k) d.batch.stretch) [
        | inl t ↦ ends_early s before first k here report comes t.1 t.2 (rw t.0 at doubled) ends
        | inr t ↦ absurd (ends (ap (λ (r : Report). r.answer) (rw t.0 at doubled)))
      ]

  pub last : (k T : ℕ) (report : Report) → k ≡ 20 → T ≡ d.batch.stretch → now.batch ≡ d.batch → ComesTo s before first (2 ^ k) here → report ≡ try_report s (open_machine now) here T → RunReports s before first report
  last k T report end window same comes reports =
      ends_last s before first here report (subst (λ (n : ℕ). ComesTo s before first (2 ^ n) here) end comes) d.batch.some d.batch.fits
      (reports ∙ ap (λ (b : Batch). try_report s (with_draw b none) here T) same ∙ ap (λ (n : ℕ). try_report s before here n) window)
