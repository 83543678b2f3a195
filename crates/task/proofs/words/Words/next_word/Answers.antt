use Rattle.std.proofs.Common.{arith, rules}
use Rattle.std.proofs.lemmas.List.{nil_from_length, take_all}
use Rattle.std.proofs.lemmas.List.Sums.{prefix_len-le-length}
use Rattle.task.specs.Text.{solid}
use Rattle.task.proofs.Cuts.{drop_leading, no_word, a_word}
use Rattle.task.proofs.words.Words.next_word.Goals as goal

pub split_at-requires : goal.split_at-requires
split_at-requires c = search (rules, prefix_len-le-length solid)

pub returns-then-is_empty : goal.returns-then-is_empty
returns-then-is_empty c = grind (arith, drop_leading, no_word, nil_from_length, take_all)

pub returns-else-is_empty : goal.returns-else-is_empty
returns-else-is_empty c = grind (arith, drop_leading, a_word, take_all)
