-- The refusals of threshold tables and of rules made from numbers.
use Rattle.std.specs.Prelude.{◌≡◌, ℕ, ◌-◌, ◌^◌, ◌<◌, ◌≤◌, ◌⊎◌, List, [], ◌∷◌, slice_index}
use Rattle.refusal.specs.Refusals.{Refusal, Answer, answer_as, given, refused, numbered}
use Rattle.lattice.specs.Faults.{shape_refusal}
use Rattle.lattice.specs.Grid.{Extent}
use Rattle.spins.specs.Table.{Rises}
use Rattle.spins.specs.declared.fault.TableFault.{TableFault}
use Rattle.spins.specs.declared.fault.TableFault.TheVariants.{Above, Falls}
use Rattle.spins.specs.declared.fault.SpinsFault.{SpinsFault}
use Rattle.spins.specs.declared.fault.SpinsFault.TheVariants.{Shape, Table}

abbrev pub table_refusal : TableFault → Refusal
table_refusal (Above index) = numbered 3 (index ∷ [])
table_refusal (Falls index) = numbered 4 (index ∷ [])

abbrev pub spins_refusal : SpinsFault → Refusal
spins_refusal (Shape e) = shape_refusal e
spins_refusal (Table e) = table_refusal e

-- A table is refused at the first index where a threshold is above 2^32, else below the one before it.
abbrev pub FaultAt : List ℕ → ℕ → Refusal → Type 0
FaultAt values i c =
    ((2 ^ 32 < slice_index values i) × (c ≡ table_refusal (Above i)))
    ⊎ ((slice_index values i ≤ 2 ^ 32) × (0 < i) × (slice_index values i < slice_index values (i - 1)) × (c ≡ table_refusal (Falls i)))

abbrev pub TableAnswers : List ℕ → Answer (List ℕ) → Type 0
TableAnswers values (given kept) = Rises values 9 × (kept ≡ values)
TableAnswers values (refused c) = (i : ℕ) × (i < 9) × Rises values i × FaultAt values i c

-- A rule is made from the answer for its sides and cap, and then from that for its table.
abbrev pub with_table : List ℕ → Answer Extent → Answer (Extent × List ℕ)
with_table table = answer_as (λ e. (e, table))

abbrev pub RuleAnswers : Answer Extent → List ℕ → Answer (Extent × List ℕ) → Type 0
RuleAnswers (refused c) values a = a ≡ refused c
RuleAnswers (given e) values (refused c) = TableAnswers values (refused c)
RuleAnswers (given e) values (given parts) = (parts.0 ≡ e) × TableAnswers values (given parts.1)
