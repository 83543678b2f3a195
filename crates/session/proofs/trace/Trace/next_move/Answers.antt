use Rattle.std.proofs.Common.{arith, rules}
use Rattle.session.proofs.Traces.{same_end}
use Rattle.session.proofs.trace.Trace.next_move.Goals as goal

pub returns : goal.returns
returns g c =
    let m = g.K.Kind.meaning c.args.setting.now.rule.now in
    let r = g.S.Source.reading c.args.setting.now.source.now in
    record {
      answers = search rules;
      leaves = search rules;
      keeps = search rules;
      ends = same_end m r c.args.self.now.left c.in_ok-word.word _ _ (omega arith) (search rules) c.in_ok-chosen.ensures.leaves;
    }
