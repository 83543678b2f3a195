use Rattle.coupling.proofs.Laws.{laws_of}
use Rattle.coupling.proofs.Samples.{agreeing_sources}
use Rattle.coupling.proofs.agreeing_sources_meet_alike.Goals as goal

pub returns : goal.returns
returns g c =
    let rule = c.args.rule.now in
    let laws = laws_of g.world g.met.K.Kind rule in
    agreeing_sources (g.K.Kind.meaning rule) laws (g.S.Source.reading c.args.first.now) (g.T.Source.reading c.args.second.now) c.sound.ensures c.sound-2.ensures
