use Rattle.coupling.proofs.Laws.{laws_of}
use Rattle.coupling.proofs.Sandwich.{ends_between}
use Rattle.coupling.proofs.ends_lie_between.Goals as goal

pub returns : goal.returns
returns g c =
    let rule = c.args.rule.now in
    let laws = laws_of g.world g.met.K.Kind rule in
    ends_between (g.K.Kind.meaning rule) laws
