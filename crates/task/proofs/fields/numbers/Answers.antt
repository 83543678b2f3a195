use Rattle.std.proofs.Common.{arith}
use Rattle.std.proofs.lemmas.List.{length-set, take_more_set}
use Rattle.task.proofs.Steps.{behind_more, behind_stops, behind_all, behind_ends}
use Rattle.task.proofs.fields.numbers.Goals as goal

pub returns-in_err-slot : goal.returns-in_err-slot
returns-in_err-slot g c = grind (arith, behind_stops)

pub loop-slot-preserved : goal.loop-slot-preserved
loop-slot-preserved g c = grind (arith, length-set, take_more_set, behind_more)

pub returns : goal.returns
returns g c = grind (arith, behind_all)

pub returns-in_err-end : goal.returns-in_err-end
returns-in_err-end g c = grind (arith, behind_ends)
