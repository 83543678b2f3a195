use Rattle.std.proofs.Common.{◌≡◌, ◌++◌, take, string_bytes}
use Rattle.std.specs.List.{flat_map}
use Rattle.task.specs.Answers.{spaced}
use Rattle.task.proofs.answers.numbers_line.Given as goal

abbrev pub invariant-loop-number : goal.invariant-loop-number
invariant-loop-number l = string_bytes l.line ≡ l.head ++ flat_map spaced (take l.number-index l.numbers)
