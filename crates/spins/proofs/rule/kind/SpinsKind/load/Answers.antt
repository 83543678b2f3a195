use Rattle.std.proofs.Common.{◌≡◌, length, get_or, ltb, ◌∙◌, sym, arith, rules}
use Rattle.std.proofs.lemmas.Bool.{ltb-false, ltb-true}
use Rattle.std.proofs.lemmas.List.Quantifiers.{position-Some}
use Rattle.lattice.specs.Grid.{cell_count}
use Rattle.lattice.proofs.Cells.{none_above}
use Rattle.lattice.proofs.Loads.{load_lawful, load_unlawful}
use Rattle.spins.specs.Spin.{spins_meaning}
use Rattle.spins.specs.Spins.{spins_extent, spins_table}
use Rattle.spins.specs.Laws.{first_bad, lawful_from}
use Rattle.spins.proofs.rule.kind.SpinsKind.load.Goals as goal

pub returns-in-Some-clause-answers : goal.returns-in-Some-clause-answers
returns-in-Some-clause-answers c =
    let e = spins_extent c.args.self.now in
    let t = spins_table c.args.self.now in
    let spins = c.in_ok-spins.spins.now in
    let i = c.in-Some.cell in
    let long : length spins ≡ cell_count e = search rules in
    let found = position-Some (ltb 1) spins i 0 (sym c.first_no_spin.ensures ∙ c.in-Some.is) in
    load_unlawful (spins_meaning e t) e _ _ spins c.in_ok-spins.ensures i (first_bad e t spins i long found.0 (λ j h. let low = ltb-false 1 (get_or spins j 0) (found.2 j h) in omega arith) (ltb-true 1 (get_or spins i 0) found.1))

pub take_spins-requires-clause-bits : goal.take_spins-requires-clause-bits
take_spins-requires-clause-bits c = none_above c.in_ok-spins.spins.now 1 (λ i found. c.in_default.not-Some i (c.first_no_spin.ensures ∙ found))

pub returns-clause-answers : goal.returns-clause-answers
returns-clause-answers c =
    let e = spins_extent c.args.self.now in
    let t = spins_table c.args.self.now in
    let spins = c.in_ok-spins.spins.now in
    let long : length spins ≡ cell_count e = search rules in
    let each = none_above spins 1 (λ i found. c.in_default.not-Some i (c.first_no_spin.ensures ∙ found)) in
    load_lawful (spins_meaning e t) e _ _ spins c.in_ok-spins.ensures (lawful_from e t spins long each)
