use Rattle.std.proofs.Common.{◌≡◌, true, false, length, get_or, take, sym, ◌∙◌, subst, arith, rules, below_more}
use Rattle.std.proofs.lemmas.Grind.{common_steps}
use Rattle.lattice.specs.Grid.{Extent, agree, cell_count}
use Rattle.lattice.proofs.Extents.{agree_same}
use Rattle.independent_sets.specs.Independent.{independent, independent_sets, may_follow}
use Rattle.independent_sets.specs.Sets.{rule_extent, state_extent}
use Rattle.independent_sets.specs.Laws.{first_bad, follow_lawful, lawful_from}
use Rattle.lattice.proofs.Loads.{load_lawful, load_unlawful}
use Rattle.independent_sets.proofs.rule.kind.IndependentSetsKind.load.Goals as goal

pub returns-then-not-may_follow-clause-answers : goal.returns-then-not-may_follow-clause-answers
returns-then-not-may_follow-clause-answers c =
    let e = rule_extent c.args.self.now in
    let cells = c.in_ok-cells.cells.now in
    let i = c.loop-cell.cell in
    let read = c.in_ok-cells.ensures in
    let long : length cells ≡ cell_count e = grind (arith, common_steps, read) in
    let stops : may_follow e (take i cells) (get_or cells i 0) ≡ false = sym c.may_follow.ensures ∙ c.if-not-may_follow.true in
    load_unlawful (independent_sets e) e _ _ cells c.in_ok-cells.ensures i (first_bad e cells i long (omega arith) c.loop-cell.invariant stops)

pub loop-cell-preserved : goal.loop-cell-preserved
loop-cell-preserved c =
    let e = rule_extent c.args.self.now in
    let cells = c.in_ok-cells.cells.now in
    below_more (λ j. may_follow e (take j cells) (get_or cells j 0) ≡ true) c.loop-cell.cell c.loop-cell.invariant (sym c.may_follow.ensures ∙ c.if-not-may_follow.false)

pub take_cells-requires-clause-apart : goal.take_cells-requires-clause-apart
take_cells-requires-clause-apart c =
    let e = rule_extent c.args.self.now in
    let f = state_extent c.args.state.now in
    let cells = c.in_ok-cells.cells.now in
    let long : length cells ≡ cell_count e = search rules in
    let owned : agree e f ≡ true = search rules in
    subst (λ (d : Extent). independent d cells ≡ true) (agree_same e f owned) (follow_lawful e cells long (λ j h. c.loop-cell.invariant j (omega arith))).1

pub returns-clause-answers : goal.returns-clause-answers
returns-clause-answers c =
    let e = rule_extent c.args.self.now in
    let cells = c.in_ok-cells.cells.now in
    let long : length cells ≡ cell_count e = search rules in
    let good = follow_lawful e cells long (λ j h. c.loop-cell.invariant j (omega arith)) in
    load_lawful (independent_sets e) e _ _ cells c.in_ok-cells.ensures (lawful_from e cells long good.0 good.1)
