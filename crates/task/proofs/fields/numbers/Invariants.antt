use Rattle.std.proofs.Common.{◌≡◌, ◌-◌, length, take}
use Rattle.task.specs.Fields.{numbers_due}
use Rattle.task.specs.Text.{left, words}
use Rattle.task.proofs.Steps.{behind}
use Rattle.task.proofs.fields.numbers.Given as goal

abbrev pub invariant-loop-slot : goal.invariant-loop-slot
invariant-loop-slot g l =
    (length l.slot-items ≡ g.row.N)
    × (behind (g.row.N - l.slot-index) (words (left l.rest)) (take l.slot-index l.slot-items) ≡ numbers_due g.row.N (words (left l.initial.rest)))
