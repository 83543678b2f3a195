use Rattle.coupling.proofs.Laws.{laws_of}
use Rattle.coupling.proofs.Shares.{equal_shares}
use Rattle.coupling.proofs.shares_are_equal.Goals as goal

pub returns : goal.returns
returns g c =
    let rule = c.args.rule.now in
    let laws = laws_of g.world g.met.E.Kind rule in
    equal_shares (g.E.Kind.meaning rule) laws (g.met.E.Kind.distinct rule) c.exchanges.ensures
