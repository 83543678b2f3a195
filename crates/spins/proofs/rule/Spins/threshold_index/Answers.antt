use Rattle.std.proofs.Common.{◌≡◌, ◌≤◌, get_or, sym, ◌∙◌, arith}
use Rattle.std.proofs.lemmas.Bool.{eqb-true, eqb-false}
use Rattle.spins.specs.Spins.{spins_extent, spin_cells}
use Rattle.spins.proofs.Sums.{holding_none, holding_yes, holding_no}
use Rattle.spins.proofs.rule.Spins.threshold_index.Goals as goal
use Rattle.spins.proofs.rule.Spins.threshold_index.Goals.{in-Some, in-Some-2, in-None}

pub loop-shift-preserved : goal.loop-shift-preserved
loop-shift-preserved c =
    let e = spins_extent c.args.self.now in
    let x = spin_cells c.args.state.now in
    let i = c.args.site in
    let n = c.loop-shift.shift-index in
    let few = c.loop-shift-test.true in
    elim c.match-beside.branch [
      | in-Some w ↦
          (let j = w.in-Some.cell in
          let at = sym w.in-Some.is ∙ c.beside.ensures in
          let up : get_or x j 0 ≡ 1 = eqb-true (get_or x j 0) 1 (sym w.is_up.ensures ∙ w.if-is_up.true) in
          let ups = holding_yes e x 1 i n j few at up in
          let downs = holding_no e x 0 i n j few at (λ z. omega arith) in
          omega (arith, w.index-is))
      | in-Some-2 w ↦
          (let j = w.in-Some.cell in
          let at = sym w.in-Some.is ∙ c.beside.ensures in
          let spin : get_or x j 0 ≤ 1 = c.args.state.now.spins j in
          let not_up = eqb-false (get_or x j 0) 1 (sym w.is_up.ensures ∙ w.if-is_up.false) in
          let down : get_or x j 0 ≡ 0 = omega (arith, not_up) in
          let ups = holding_no e x 1 i n j few at not_up in
          let downs = holding_yes e x 0 i n j few at down in
          omega (arith, w.index-is))
      | in-None w ↦
          (let at = sym w.in-None.is ∙ c.beside.ensures in
          let ups = holding_none e x 1 i n few at in
          let downs = holding_none e x 0 i n few at in
          omega (arith, w.index-is))
    ]
