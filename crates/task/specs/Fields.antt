-- What a directive is given: numbers, bytes or a path. Each is read from the words behind the directive's, and where
-- it cannot be read, the answer is what was expected first.
use Rattle.std.specs.Prelude.{◌≡◌, ℕ, zero, suc, List, [], ◌∷◌, drop, Ok, Err, codes, Result}
use Rattle.std.specs.Option.{ok_or}
use Rattle.task.specs.Text.{number, hex_bytes}
use Rattle.task.specs.declared.line.Expected.{Expected}
use Rattle.task.specs.declared.line.Expected.TheVariants.{Directive, Number, Hex, Path, End}
use Rattle.task.specs.declared.line.LineFault.{LineFault}

-- What follows from what was read.
abbrev pub with_it : {A B : Type 0} → Result A Expected → (A → Result B Expected) → Result B Expected
with_it (Ok x) f = f x
with_it (Err e) f = Err e

abbrev pub read_as : {A B : Type 0} → (A → B) → Result A Expected → Result B Expected
read_as f r = with_it r (λ x. Ok (f x))

-- What a reading says is what is due, unless memory was wanting.
abbrev pub UnlessMemory : {A B : Type 0} → (Result A Expected → B) → Result A LineFault → B → Type 0
UnlessMemory says (Ok x) due = says (Ok x) ≡ due
UnlessMemory says (Err (LineFault.Expected e)) due = says (Err e) ≡ due
UnlessMemory says (Err LineFault.Memory) due = Unit {0}

-- Nothing more stands on the line.
abbrev pub at_end : {A : Type 0} → List (List ℕ) → A → Result A Expected
at_end [] x = Ok x
at_end (w ∷ ws) x = Err End

-- A number in the first word.
abbrev pub number_due : List (List ℕ) → Result ℕ Expected
number_due [] = Err Number
number_due (w ∷ ws) = ok_or (number w) Number

-- Just n numbers.
unfoldable pub numbers_due : ℕ → List (List ℕ) → Result (List ℕ) Expected
numbers_due zero ws = at_end ws []
numbers_due (suc n) ws = with_it (number_due ws) (λ x. read_as (λ xs. x ∷ xs) (numbers_due n (drop 1 ws)))

-- Just one word of bytes in hex.
abbrev pub bytes_due : List (List ℕ) → Result (List ℕ) Expected
bytes_due [] = Err Hex
bytes_due (w ∷ ws) = with_it (ok_or (hex_bytes w) Hex) (at_end ws)

-- A path, which is the rest of the line and not empty.
abbrev pub path_due : List ℕ → Result (List ℕ) Expected
path_due [] = Err Path
path_due (b ∷ bs) = Ok (b ∷ bs)

-- What was expected, in the words of a message.
abbrev pub wording : Expected → List ℕ
wording Directive = codes "a directive"
wording Number = codes "a number below 2^64"
wording Hex = codes "bytes in hex, or -"
wording Path = codes "a path"
wording End = codes "the end of the line"
