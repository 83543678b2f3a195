-- What a call answers: a value, or the refusal that stands in its place.
use Rattle.std.specs.Prelude.{ℕ, Bool, true, false, List, [], ◌∷◌, Ok, Err, Result}

-- A refusal is its number and the values that come with it. Want of memory has no number: no input decides it.
pub data Refusal : Type 0 where
  numbered : ℕ → List ℕ → Refusal
  no_memory : Refusal

pub data Answer (A : Type 0) : Type 0 where
  given : A → Answer A
  refused : Refusal → Answer A

-- The answer a where the test holds, else the refusal.
abbrev pub provided : {A : Type 0} → Bool → Refusal → Answer A → Answer A
provided true c a = a
provided false c a = refused c

-- The same answer, of another value.
abbrev pub answer_as : {A B : Type 0} → (A → B) → Answer A → Answer B
answer_as f (given x) = given (f x)
answer_as f (refused c) = refused c

-- What a Result says: the meaning of its value, or that of its error.
abbrev pub answer : {A B E : Type 0} → (A → B) → (E → Refusal) → Result A E → Answer B
answer f why (Ok x) = given (f x)
answer f why (Err e) = refused (why e)

-- The numbers of a refusal in a row: its own, then its values.
abbrev pub row : Refusal → List ℕ
row (numbered n values) = n ∷ values
row no_memory = []

-- What a call leaves of a thing that it may change: the new one, or after a refusal the old.
abbrev pub left_by : {A X : Type 0} → Answer A → X → X → X
left_by (given a) new old = new
left_by (refused c) new old = old
