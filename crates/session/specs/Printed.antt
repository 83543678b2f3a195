-- The lines that a task prints.
use Rattle.std.specs.Prelude.{◌≡◌, ℕ, zero, suc, ◌*◌, ◌/◌, ◌%◌, ◌^◌, Bool, false, ◌&&◌, ◌⊎◌, List, [], ◌∷◌, ◌++◌, Some, None, codes, decimal, Option}
use Rattle.batch.specs.Ends.{Two}
use Rattle.lattice.specs.Faults.{state_refusal}
use Rattle.lattice.specs.Grid.{Extent, agree}
use Rattle.lattice.specs.declared.fault.StateFault.TheVariants.{Foreign}
use Rattle.refusal.specs.Refusals.{Answer, Refusal, given, no_memory, numbered, provided, refused}
use Rattle.std.specs.List.{flat_map}
use Rattle.std.specs.Char.{digit_char}
use Rattle.task.specs.Answers.{spaced}
use Rattle.session.specs.declared.trace.Step.{Step}

abbrev pub newline : List ℕ
newline = 10 ∷ []

-- A text, numbers in decimal with one space before each, and the newline.
abbrev pub printed : List ℕ → List ℕ → List ℕ
printed head numbers = (head ++ flat_map spaced numbers) ++ newline

-- A refusal prints its number and values. Want of memory has none to print.
abbrev pub refused_line : Refusal → Option (List ℕ)
refused_line (numbered n values) = Some (printed (codes "refused") (n ∷ values))
refused_line no_memory = None

abbrev pub rule_line : (code : ℕ) → Extent → List ℕ
rule_line code e = printed (codes "rule") (code ∷ e.rows ∷ e.columns ∷ e.largest ∷ [])

abbrev pub source_line : (depth : ℕ) → List ℕ
source_line depth = printed (codes "source") (depth ∷ [])

-- What a rule says of its own state, unless there is no memory.
abbrev pub TellsOwn : {A : Type 0} → (rule state : Extent) → A → Answer A → Type 0
TellsOwn rule state x a = (a ≡ provided (agree rule state) (state_refusal Foreign) (given x)) ⊎ (a ≡ refused no_memory)

-- What is told of the states of a rule. If they are not its own that may be refused, and there may be no memory.
abbrev pub Tells : {A : Type 0} → (own : Bool) → A → Answer A → Type 0
Tells own x a = (a ≡ given x) ⊎ ((a ≡ refused no_memory) ⊎ ((own ≡ false) × (a ≡ refused (state_refusal Foreign))))

-- Whether both states are a rule's own.
abbrev pub owns_both : Extent → Two → Bool
owns_both rule ends = agree rule ends.low_extent && agree rule ends.high_extent

-- The cells of the two states.
abbrev pub state_lines : (low high : List ℕ) → List ℕ
state_lines x y = printed (codes "low") x ++ printed (codes "high") y

-- The lowest k digits of a number in base 16, the highest of them first.
unfoldable pub hex_digits : ℕ → ℕ → List ℕ
hex_digits zero n = []
hex_digits (suc k) n = digit_char (n / 2 ^ (4 * k) % 16) ∷ hex_digits k n

-- The place, the word in 16 hex digits, and the site and the level that it chose.
abbrev pub move_line : Step → List ℕ
move_line m =
    codes "place " ++ decimal m.place ++ codes " word " ++ hex_digits 16 m.word
    ++ codes " site " ++ decimal m.chosen.site ++ codes " level " ++ decimal m.chosen.level ++ newline

-- A move, and behind it the cells of the state that it left.
abbrev pub move_lines : Step → List ℕ → List ℕ
move_lines m cells = move_line m ++ printed (codes "state") cells
