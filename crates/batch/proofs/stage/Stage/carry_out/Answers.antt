use Rattle.coupling.proofs.Laws.{laws_of}
use Rattle.batch.specs.Settings.{setting_of}
use Rattle.batch.proofs.Exact.{holds}
use Rattle.batch.proofs.stage.Stage.carry_out.Goals as goal

pub returns-clause-holds : goal.returns-clause-holds
returns-clause-holds g c =
    let rule = c.args.setting.now.rule.now in
    let laws = laws_of g.world g.met.K.Kind rule in
    holds (setting_of g.K.Kind g.S.Source c.args.setting.now) laws c.sound.ensures
