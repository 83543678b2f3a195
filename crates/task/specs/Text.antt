-- How the text of a task is read: its words, its numbers, bytes in hex, and paths.
use Rattle.std.specs.Prelude.{ℕ, ◌+◌, ◌-◌, ◌*◌, ◌^◌, Bool, true, false, cond, not, ◌&&◌, ◌||◌, List, [], ◌∷◌, reverse, length, Some, None, codes, filter, Option, ◌==◌, nat_lt}
use Rattle.std.specs.Int.{is_in_range}
use Rattle.std.specs.Str.{bytes_eq}
use Rattle.task.specs.declared.words.Words.{Words}

-- A space, a tab or a carriage return.
abbrev pub blank : ℕ → Bool
blank b = b == 32 || (b == 9 || b == 13)

abbrev pub solid : ℕ → Bool
solid b = not (blank b)

-- One more byte at the front of the first piece.
abbrev pub begun : ℕ → List (List ℕ) → List (List ℕ)
begun b [] = (b ∷ []) ∷ []
begun b (p ∷ ps) = (b ∷ p) ∷ ps

-- The pieces of a text that is cut at each blank.
abbrev pub pieces : List ℕ → List (List ℕ)
pieces [] = [] ∷ []
pieces (b ∷ bs) = cond (blank b) ([] ∷ pieces bs) (begun b (pieces bs))

abbrev pub some : List ℕ → Bool
some [] = false
some (b ∷ bs) = true

-- The words of a text: the pieces that hold something.
abbrev pub words : List ℕ → List (List ℕ)
words bs = filter some (pieces bs)

abbrev pub first : {A : Type 0} → List A → Option A
first [] = None
first (x ∷ xs) = Some x

-- What is left behind the leading bytes that pass the test.
abbrev pub past : (ℕ → Bool) → List ℕ → List ℕ
past test [] = []
past test (b ∷ bs) = cond (test b) (past test bs) (b ∷ bs)

-- The text without the blanks at its ends.
abbrev pub trimmed : List ℕ → List ℕ
trimmed bs = reverse (past blank (reverse (past blank bs)))

-- What stands behind the first word.
abbrev pub after_word : List ℕ → List ℕ
after_word bs = past solid (past blank bs)

-- What is left of a line.
abbrev pub left : Words → List ℕ
left ws = ws.rest.now

abbrev pub all_digits : List ℕ → Bool
all_digits [] = true
all_digits (b ∷ bs) = is_in_range 48 57 b && all_digits bs

-- What decimal digits are worth: a digit with n digits behind it counts 10 ^ n times.
abbrev pub worth : List ℕ → ℕ
worth [] = 0
worth (b ∷ bs) = (b - 48) * 10 ^ length bs + worth bs

-- The number with one more digit behind it.
abbrev pub longer : ℕ → ℕ → Option ℕ
longer n b = cond (is_in_range 48 57 b && nat_lt (n * 10 + (b - 48)) (2 ^ 64)) (Some (n * 10 + (b - 48))) None

-- The number that a word of digits writes, where 64 bits have room for it.
abbrev pub number : List ℕ → Option ℕ
number w = cond (some w && (all_digits w && nat_lt (worth w) (2 ^ 64))) (Some (worth w)) None

-- The value of a hex digit of either case.
abbrev pub hex_digit : ℕ → Option ℕ
hex_digit b =
    cond (is_in_range 48 57 b) (Some (b - 48)) (cond (is_in_range 97 102 b) (Some (b - 87)) (cond (is_in_range 65 70 b) (Some (b - 55)) None))

-- What two values make, where both are there.
abbrev pub both : {A B C : Type 0} → (A → B → C) → Option A → Option B → Option C
both f None y = None
both f (Some x) None = None
both f (Some x) (Some y) = Some (f x y)

abbrev pub hex_byte : ℕ → ℕ → Option ℕ
hex_byte high low = both (λ h l. 16 * h + l) (hex_digit high) (hex_digit low)

-- The bytes of a text of hex digits, two for each byte.
abbrev pub hex_pairs : List ℕ → Option (List ℕ)
hex_pairs [] = Some []
hex_pairs (high ∷ []) = None
hex_pairs (high ∷ low ∷ bs) = both (λ b rest. b ∷ rest) (hex_byte high low) (hex_pairs bs)

-- The bytes that a word writes in hex; a dash writes none.
abbrev pub hex_bytes : List ℕ → Option (List ℕ)
hex_bytes w = cond (bytes_eq w (codes "-")) (Some []) (hex_pairs w)
