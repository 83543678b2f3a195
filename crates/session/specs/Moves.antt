-- What a move answers: the site and the level that its word chose.
use Rattle.std.specs.Prelude.{ℕ}
use Rattle.lattice.specs.Faults.{state_refusal}
use Rattle.lattice.specs.Grid.{Extent, agree, cell_count}
use Rattle.lattice.specs.Words.{site, level}
use Rattle.lattice.specs.declared.fault.StateFault.TheVariants.{Foreign}
use Rattle.refusal.specs.Refusals.{Answer, given, provided}
use Rattle.session.specs.declared.moves.Move.{Move}

abbrev pub chosen : Move → ℕ × ℕ
chosen m = (m.site, m.level)

abbrev pub move_answer : (rule state : Extent) → ℕ → Answer (ℕ × ℕ)
move_answer rule state word = provided (agree rule state) (state_refusal Foreign) (given (site (cell_count rule) word, level word))
