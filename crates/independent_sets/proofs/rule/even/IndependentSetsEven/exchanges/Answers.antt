use Rattle.std.proofs.lemmas.Nat.{mul-le}
use Rattle.independent_sets.specs.Sets.{rule_extent}
use Rattle.independent_sets.specs.Laws.{even}
use Rattle.independent_sets.proofs.rule.even.IndependentSetsEven.exchanges.Goals as goal

pub returns : goal.returns
returns c =
    let e = rule_extent c.args.self.now in
    let sided = c.args.self.now.shape.sided in
    even e (mul-le 1 1 e.rows e.columns sided.0 sided.2)
