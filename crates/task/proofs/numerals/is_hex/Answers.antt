use Rattle.std.proofs.Common.{◌≡◌, length, ◌%◌, sym, ◌∙◌, arith, rules}
use Rattle.task.proofs.Hex.{even_pairs, odd_pairs}
use Rattle.task.proofs.numerals.is_hex.Goals as goal

pub returns-then-word-eq0 : goal.returns-then-word-eq0
returns-then-word-eq0 c =
    let w = c.args.word.now in
    let even : length w % 2 ≡ 0 = search rules in
    c.all_hex_digits.ensures ∙ sym (even_pairs w even)

pub returns-else-word-eq0 : goal.returns-else-word-eq0
returns-else-word-eq0 c =
    let w = c.args.word.now in
    let odd : length w % 2 ≡ 1 = omega (arith, c.if-word-eq0.false) in
    rw (odd, odd_pairs w odd)
