-- What the calls of a kind answer, and in which order they refuse.
use Rattle.std.specs.Prelude.{◌≡◌, ℕ, Bool, ◌&&◌, List, length, take, Decides, MatchBool, nat_le, nat_lt, slice_index}
use Rattle.refusal.specs.Refusals.{Answer, given, refused, provided}
use Rattle.lattice.specs.Faults.{state_refusal}
use Rattle.lattice.specs.Grid.{Extent, agree, cell_count}
use Rattle.lattice.specs.Kind.{Meaning, Lawful, FirstBad}
use Rattle.lattice.specs.declared.fault.StateFault.TheVariants.{Foreign, NoCell, FewCells, Unlawful}

-- A call that refuses only a state that is not the rule's. An extent is given by the rule, another by the state.
abbrev pub owner_answer : (rule state : Extent) → Answer (Unit {0})
owner_answer rule state = provided (agree rule state) (state_refusal Foreign) (given tt)

abbrev pub cell_answer : (rule state : Extent) → List ℕ → ℕ → Answer ℕ
cell_answer rule state cells i =
    provided (agree rule state) (state_refusal Foreign)
    (provided (nat_lt i (cell_count rule)) (state_refusal NoCell)
    (given (slice_index cells i)))

-- The bytes that loading reads: one for each cell, from the first on.
abbrev pub read_answer : (rule state : Extent) → List ℕ → Answer (List ℕ)
read_answer rule state bytes =
    provided (agree rule state) (state_refusal Foreign)
    (provided (nat_le (cell_count rule) (length bytes)) (state_refusal FewCells)
    (given (take (cell_count rule) bytes)))

-- Two states are equal when their lists of cells are.
abbrev pub TellsEqual : List ℕ → List ℕ → Answer Bool → Type 0
TellsEqual x y (given t) = Decides t (x ≡ y)
TellsEqual x y (refused c) = ⊥

abbrev pub EqualAnswers : (rule first second : Extent) → List ℕ → List ℕ → Answer Bool → Type 0
EqualAnswers rule first second x y a = MatchBool (agree rule first && agree rule second) (TellsEqual x y a) (a ≡ refused (state_refusal Foreign))

-- Cells are taken where they are lawful, and refused at the first bad cell.
abbrev pub CellsAnswer : Meaning → List ℕ → Answer (Unit {0}) → Type 0
CellsAnswer m cells (given u) = Lawful m cells
CellsAnswer m cells (refused c) = (i : ℕ) × FirstBad m cells i × (c ≡ state_refusal (Unlawful i))

-- Loading reads a byte for each cell and passes over the others.
abbrev pub LoadAnswers : Meaning → (rule state : Extent) → List ℕ → Answer (Unit {0}) → Type 0
LoadAnswers m rule state bytes a =
    MatchBool (agree rule state)
    (MatchBool (nat_le (cell_count rule) (length bytes)) (CellsAnswer m (take (cell_count rule) bytes) a) (a ≡ refused (state_refusal FewCells)))
    (a ≡ refused (state_refusal Foreign))
