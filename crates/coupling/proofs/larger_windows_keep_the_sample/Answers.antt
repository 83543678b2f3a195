use Rattle.coupling.proofs.Laws.{laws_of}
use Rattle.coupling.proofs.Samples.{larger_windows, older_change_nothing}
use Rattle.coupling.proofs.larger_windows_keep_the_sample.Goals as goal

pub returns : goal.returns
returns g c =
    let rule = c.args.rule.now in
    let laws = laws_of g.world g.met.K.Kind rule in
    record {
      older = older_change_nothing (g.K.Kind.meaning rule) laws;
      larger = larger_windows (g.K.Kind.meaning rule) laws (g.S.Source.reading c.args.source.now) c.sound.ensures;
    }
