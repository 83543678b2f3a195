-- What a kind of state means, and the laws that it keeps.
use Rattle.std.specs.Prelude.{◌≡◌, ℕ, ◌+◌, ◌^◌, ◌<◌, ◌≤◌, ◌⊎◌, List, [], ◌∷◌, length, take}
use Rattle.std.specs.List.{AllByRecursion}
use Rattle.lattice.specs.Grid.{Extent, cell_count}

-- A rule: the list of its lawful states, each by its cell values, their order, the least and the greatest, and the
-- state to which a word leads a state.
pub record Meaning : Type 1 where
  pub states : List (List ℕ)
  pub below : List ℕ → List ℕ → Type 0
  pub bottom : List ℕ
  pub top : List ℕ
  pub step : ℕ → List ℕ → List ℕ

-- The list holds x.
abbrev pub Holds : {X : Type 0} → List X → X → Type 0
Holds [] x = ⊥
Holds (y ∷ ys) x = (x ≡ y) ⊎ Holds ys x

-- No state stands in the list twice.
abbrev pub Distinct : List (List ℕ) → Type 0
Distinct [] = Unit {0}
Distinct (x ∷ xs) = (Holds xs x → ⊥) × Distinct xs

abbrev pub Lawful : Meaning → List ℕ → Type 0
Lawful m x = Holds m.states x

-- The laws that exact sampling rests on: order, bounds, closure and monotone steps.
pub record Ordered (m : Meaning) : Type 0 where
  pub reflexive : (x : List ℕ) → Lawful m x → m.below x x
  pub antisymmetric : (x y : List ℕ) → Lawful m x → Lawful m y → m.below x y → m.below y x → x ≡ y
  pub transitive : (x y z : List ℕ) → Lawful m x → Lawful m y → Lawful m z → m.below x y → m.below y z → m.below x z

pub record Bounded (m : Meaning) : Type 0 where
  pub bottom_lawful : Lawful m m.bottom
  pub top_lawful : Lawful m m.top
  pub above_bottom : (x : List ℕ) → Lawful m x → m.below m.bottom x
  pub below_top : (x : List ℕ) → Lawful m x → m.below x m.top

abbrev pub Closed : Meaning → Type 0
Closed m = (w : ℕ) → w < 2 ^ 64 → (x : List ℕ) → Lawful m x → Lawful m (m.step w x)

abbrev pub Monotone : Meaning → Type 0
Monotone m = (w : ℕ) → w < 2 ^ 64 → (x y : List ℕ) → Lawful m x → Lawful m y → m.below x y → m.below (m.step w x) (m.step w y)

-- Every lawful state has a value for each cell, and each value fits the kind's width in bits.
abbrev pub Sized : Meaning → Extent → ℕ → Type 0
Sized m e bits = (x : List ℕ) → Lawful m x → (length x ≡ cell_count e) × AllByRecursion (λ v. v < 2 ^ bits) x

-- Some lawful state begins with these cells.
abbrev pub Begins : Meaning → List ℕ → Type 0
Begins m p = (x : List ℕ) × Lawful m x × (take (length p) x ≡ p)

-- The first bad cell: some lawful state begins with the cells before it, and none with those up to it.
pub record FirstBad (m : Meaning) (cells : List ℕ) (i : ℕ) : Type 0 where
  pub within : i < length cells
  pub before : Begins m (take i cells)
  pub up_to : Begins m (take (i + 1) cells) → ⊥

-- The range of a kind's code, and of the bits that one of its cells takes.
pub record Coded (code width : ℕ) : Type 0 where
  pub code_from : 1 ≤ code
  pub code_to : code ≤ 63
  pub width_from : 1 ≤ width
  pub width_to : width ≤ 8
