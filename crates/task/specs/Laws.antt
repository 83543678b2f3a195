-- What holds of the words, paths and bytes of a line, however they are found.
use Rattle.std.specs.Prelude.{◌≡◌, ℕ, ◌/◌, ◌%◌, ◌<◌, true, false, ◌⊎◌, List, [], ◌∷◌, ◌++◌, map, length, Some, None, codes, Option}
use Rattle.std.specs.Char.{digit_char, to_ascii_lowercase}
use Rattle.std.specs.List.{flat_map, AllByRecursion}
use Rattle.task.specs.Text.{blank}

abbrev pub Blank : ℕ → Type 0
Blank b = blank b ≡ true

abbrev pub Solid : ℕ → Type 0
Solid b = blank b ≡ false

-- A word holds something, and no blank.
abbrev pub Word : List ℕ → Type 0
Word w = (0 < length w) × AllByRecursion Solid w

-- Nothing, or a text that begins with a blank.
abbrev pub Parted : List ℕ → Type 0
Parted [] = Unit {0}
Parted (b ∷ bs) = Blank b

-- The line is these words in their order, with blanks around them and at least one between two words.
abbrev pub Spaced : List ℕ → List (List ℕ) → Type 0
Spaced line [] = AllByRecursion Blank line
Spaced line (w ∷ ws) =
    (before : List ℕ) × (after : List ℕ) × (line ≡ before ++ (w ++ after)) × AllByRecursion Blank before × Word w × Parted after × Spaced after ws

-- The text is t with blanks around it, and t itself neither begins nor ends with a blank.
pub record Trims (text t : List ℕ) : Type 0 where
  pub before : List ℕ
  pub after : List ℕ
  pub whole : text ≡ before ++ (t ++ after)
  pub blank_before : AllByRecursion Blank before
  pub blank_after : AllByRecursion Blank after
  pub begins : (b : ℕ) (bs : List ℕ) → t ≡ b ∷ bs → Solid b
  pub ends : (bs : List ℕ) (b : ℕ) → t ≡ bs ++ b ∷ [] → Solid b

-- Bytes in hex: two digits for each, letters in lower case.
abbrev pub hex_text : List ℕ → List ℕ
hex_text bytes = flat_map (λ b. digit_char (b / 16) ∷ digit_char (b % 16) ∷ []) bytes

-- The word writes these bytes: it is their digits in either case, or a dash for none.
abbrev pub Writes : List ℕ → List ℕ → Type 0
Writes w bytes = (map to_ascii_lowercase w ≡ hex_text bytes) ⊎ ((w ≡ codes "-") × (bytes ≡ []))

-- The bytes that the word writes, or nothing where it writes none at all.
abbrev pub ReadsHex : List ℕ → Option (List ℕ) → Type 0
ReadsHex w (Some bytes) = Writes w bytes
ReadsHex w None = (bytes : List ℕ) → AllByRecursion (λ b. b < 256) bytes → Writes w bytes → ⊥
