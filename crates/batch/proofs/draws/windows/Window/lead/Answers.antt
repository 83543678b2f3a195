use Rattle.std.proofs.Common.{◌-◌, ◌∙◌, arith}
use Rattle.batch.proofs.Moves.{moved, no_words}
use Rattle.batch.proofs.draws.windows.Window.lead.Goals as goal

pub loop-place-preserved : goal.loop-place-preserved
loop-place-preserved g c =
    let p = c.args.self.now.places in
    let n = c.loop-place.place in (
      moved (g.K.Kind.meaning c.args.rule.now) (g.S.Source.reading p.source.now) p.stretch p.number p.window (n - 1) n _ _ _ _ _ (omega (arith, c.loop-place-test.true)) c.in_ok-word.ensures (omega (arith, c.loop-place-test.true)) c.in_ok-apply.ensures.leaves c.loop-place.invariant.0,
      c.in_ok-apply.ensures.keeps ∙ c.loop-place.invariant.1,
    )

pub returns-clause-leads : goal.returns-clause-leads
returns-clause-leads g c =
    let p = c.args.self.now.places in
    no_words (g.K.Kind.meaning c.args.rule.now) (g.S.Source.reading p.source.now) p.stretch p.number c.loop-place.place _ _ c.loop-place-test.false c.loop-place.invariant.0
