use Rattle.coupling.proofs.Laws.{laws_of}
use Rattle.coupling.proofs.Sandwich.{apart_where_some_differ, meets_where_all_end}
use Rattle.coupling.proofs.meets_where_all_end.Goals as goal

pub returns : goal.returns
returns g c =
    let rule = c.args.rule.now in
    let laws = laws_of g.world g.met.K.Kind rule in
    record {
      met = meets_where_all_end (g.K.Kind.meaning rule) laws;
      apart = apart_where_some_differ (g.K.Kind.meaning rule) laws;
    }
