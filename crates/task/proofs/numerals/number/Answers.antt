use Rattle.std.proofs.Common.{◌≡◌, ◌<◌, length, sym, arith, rules}
use Rattle.std.proofs.lemmas.Bool.{eqb-false}
use Rattle.std.proofs.lemmas.Iterator.{YieldsList-from_slice}
use Rattle.std.specs.ControlFlow.{continue_value}
use Rattle.task.proofs.Folds.{try_folded}
use Rattle.task.proofs.Places.{number_is}
use Rattle.task.proofs.numerals.number.Goals as goal

pub returns : goal.returns
returns c =
    let w = c.args.word.now in
    let some : 0 < length w = omega (arith, eqb-false (length w) 0 (sym c.if-is_empty.ensures)) in
    let read = try_folded _ _ (λ o m. o ≡ continue_value m) (λ p n x o q k. search rules) (λ o m e. e) _ _ _ c.try_fold.result c.try_fold.ensures.ran (YieldsList-from_slice w c.iter.ensures.rest) in
    cc (read, number_is w some)
