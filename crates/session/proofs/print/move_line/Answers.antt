use Rattle.std.proofs.Common.{◌≡◌, ℕ, ◌-◌, ◌^◌, false, List, [], ◌++◌, codes, decimal, ap, ◌∙◌, append_assoc, arith}
use Rattle.std.proofs.lemmas.Result.{IfOk-weaker}
use Rattle.std.specs.Fmt.{digits, format_spec, padded_integral}
use Rattle.session.specs.Printed.{newline}
use Rattle.session.proofs.Hex.{hex_word}
use Rattle.session.proofs.print.move_line.Goals as goal

-- pieces put together from the last on, and from the first on
regrouped : (a b c d e f g h i : List ℕ) → a ++ (b ++ (c ++ (d ++ (e ++ (f ++ (g ++ (h ++ i))))))) ≡ a ++ b ++ c ++ d ++ e ++ f ++ g ++ h ++ i
regrouped a b c d e f g h i = simp append_assoc

pub returns : goal.returns
returns c =
    let m = c.args.step in
    let digits_made = c.in_radix.ensures in
    let options = c.laid_out.ensures in
    let word = padded_integral (format_spec 32 0 4 16 (2 ^ 64 - 1)) false [] (digits 16 false m.word) in
    IfOk-weaker c.format.result _ _
    (λ t e. e ∙ regrouped (codes "place ") (decimal m.place) (codes " word ") word (codes " site ") (decimal m.chosen.site) (codes " level ") (decimal m.chosen.level) newline
    ∙ ap (λ (w : List ℕ). codes "place " ++ decimal m.place ++ codes " word " ++ w ++ codes " site " ++ decimal m.chosen.site ++ codes " level " ++ decimal m.chosen.level ++ newline) (hex_word m.word (omega arith)))
    (simp (digits_made, options) at c.format.ensures.ok)
