-- Neighbours on a grid: each is a cell of the grid, each is a neighbour of the other, and they have opposite colours.
use Rattle.std.specs.Prelude.{◌≡◌, ℕ, zero, suc, ◌+◌, ◌*◌, ◌/◌, ◌%◌, ◌<◌, ◌≤◌, Bool, true, false, not, ◌⊎◌, List, [], ◌++◌, ℤ, pos, negsuc, ◌+ℤ◌, Some, None, Option, ◌==◌, ◌≢◌, refl}
use Rattle.std.proofs.Common.{inl, inr, ⊎_elim, sym, ap, ap₂, ◌∙◌, subst, mul_comm, mul-zero, arith}
use Rattle.std.proofs.lemmas.Nat.{div_below, div-add-mod', div-mul-add, mod_below, mod-mul-add, mul-add-lt}
use Rattle.std.proofs.lemmas.Int.{ints}
use Rattle.std.proofs.lemmas.Bool.{cases_lt, eq-eqb, ne_eqb, cases_eq, true≢false, false≢true}
use Rattle.std.specs.Option.{option_to_list}
use Rattle.lattice.specs.Kind.{Holds}
use Rattle.lattice.proofs.Listed.{holds_cases, holds_left, holds_right}
use Rattle.lattice.specs.Grid.{Extent, beside, cell_at, cell_count, neighbours}
use Rattle.lattice.proofs.Neighbours.{cell_from, cell_parts, direction, seen, seen_more}
use Rattle.independent_sets.specs.Independent.{white}

abbrev row : Extent → ℕ → ℕ
row e i = i / e.columns

abbrev column : Extent → ℕ → ℕ
column e i = i % e.columns

-- a cell at integer coordinates has natural ones
at_naturals : (e : Extent) (a b : ℤ) (j : ℕ) → cell_at e a b ≡ Some j → (r : ℕ) × (c : ℕ) × (a ≡ pos r) × (b ≡ pos c)
at_naturals e (pos r) (pos c) j h = (r, c, refl, refl)
at_naturals e (pos r) (negsuc c) j h = cc
at_naturals e (negsuc r) b j h = cc

-- the coordinates of a cell that is made from a row and a column
module _ (e : Extent) (r c j : ℕ) (left : c < e.columns) (same : j ≡ r * e.columns + c) where
  row_is : row e j ≡ r
  row_is = ap (row e) same ∙ div-mul-add r e.columns c left

  column_is : column e j ≡ c
  column_is = ap (column e) same ∙ mod-mul-add r e.columns c left

columns_from : (e : Extent) (j : ℕ) → j < cell_count e → 0 < e.columns
columns_from e j within =
    ⊎_elim
    (λ (z : e.columns < 1). let none : e.columns ≡ 0 = omega arith in absurd (omega (arith, ap (λ (n : ℕ). e.rows * n) none, mul-zero e.rows)))
    (λ (some : 1 ≤ e.columns). omega arith)
    (cases_lt e.columns 1)

-- the two lie one apart
abbrev OneApart : ℕ → ℕ → Type 0
OneApart a b = (a + 1 ≡ b) ⊎ (b + 1 ≡ a)

-- one apart in the row or in the column, and the same in the other
abbrev Next : Extent → ℕ → ℕ → Type 0
Next e i j = (OneApart (row e i) (row e j) × (column e i ≡ column e j)) ⊎ ((row e i ≡ row e j) × OneApart (column e i) (column e j))

-- the cell at a shift has the shifted coordinates
shifted : (e : Extent) (i j : ℕ) (s t : ℤ) → beside e i (s, t) ≡ Some j → (pos (row e i) +ℤ s ≡ pos (row e j)) × (pos (column e i) +ℤ t ≡ pos (column e j)) × (j < cell_count e)
shifted e i j s t h =
    let n = at_naturals e (pos (row e i) +ℤ s) (pos (column e i) +ℤ t) j h in
    let at : cell_at e (pos n.0) (pos n.1) ≡ Some j = subst (λ (a : ℤ). cell_at e a (pos n.1) ≡ Some j) n.2 (subst (λ (b : ℤ). cell_at e (pos (row e i) +ℤ s) b ≡ Some j) n.3 h) in
    let p = cell_parts e n.0 n.1 j at in (
      n.2 ∙ ap pos (sym (row_is e n.0 n.1 j p.1 p.2)),
      n.3 ∙ ap pos (sym (column_is e n.0 n.1 j p.1 p.2)),
      rw p.2 (omega (arith, mul-add-lt n.0 e.columns n.1 e.rows p.0 p.1, mul_comm e.rows e.columns)),
    )

one_down : (a b : ℕ) → pos a +ℤ negsuc 0 ≡ pos b → b + 1 ≡ a
one_down a b h = omega (arith, ints)

one_up : (a b : ℕ) → pos a +ℤ pos 1 ≡ pos b → a + 1 ≡ b
one_up a b h = omega (arith, ints)

unmoved : (a b : ℕ) → pos a +ℤ pos 0 ≡ pos b → a ≡ b
unmoved a b h = omega (arith, ints)

some_among : (o : Option ℕ) (j : ℕ) → Holds (option_to_list o) j → o ≡ Some j
some_among None j h = absurd h
some_among (Some k) j (inl e) = ap Some (sym e)
some_among (Some k) j (inr h) = absurd h

among_some : (o : Option ℕ) (j : ℕ) → o ≡ Some j → Holds (option_to_list o) j
among_some o j h = rw h (inl refl)

module _ (e : Extent) (i j : ℕ) where
  abbrev to : ℤ → ℤ → List ℕ
  to s t = option_to_list (beside e i (s, t))

  abbrev right : List ℕ
  right = to (pos 0) (pos 1) ++ []

  abbrev sideways : List ℕ
  sideways = to (pos 0) (negsuc 0) ++ right

  abbrev down : List ℕ
  down = to (pos 1) (pos 0) ++ sideways

  next_at : (s t : ℤ) → ((pos (row e i) +ℤ s ≡ pos (row e j)) → (pos (column e i) +ℤ t ≡ pos (column e j)) → Next e i j) → Holds (to s t) j → (j < cell_count e) × Next e i j
  next_at s t next h = let p = shifted e i j s t (some_among (beside e i (s, t)) j h) in (p.2, next p.0 p.1)

  next_from : Holds (neighbours e i) j → (j < cell_count e) × Next e i j
  next_from h =
      ⊎_elim (next_at (negsuc 0) (pos 0) (λ r c. inl (inr (one_down (row e i) (row e j) r), unmoved (column e i) (column e j) c)))
      (λ k.
      ⊎_elim (next_at (pos 1) (pos 0) (λ r c. inl (inl (one_up (row e i) (row e j) r), unmoved (column e i) (column e j) c)))
      (λ l.
      ⊎_elim (next_at (pos 0) (negsuc 0) (λ r c. inr (unmoved (row e i) (row e j) r, inr (one_down (column e i) (column e j) c))))
      (λ m. ⊎_elim (next_at (pos 0) (pos 1) (λ r c. inr (unmoved (row e i) (row e j) r, inl (one_up (column e i) (column e j) c)))) absurd (holds_cases (to (pos 0) (pos 1)) [] j m))
      (holds_cases (to (pos 0) (negsuc 0)) right j l))
      (holds_cases (to (pos 1) (pos 0)) sideways j k))
      (holds_cases (to (negsuc 0) (pos 0)) down j h)

  in_above : Holds (to (negsuc 0) (pos 0)) j → Holds (neighbours e i) j
  in_above = holds_left (to (negsuc 0) (pos 0)) down j

  in_below : Holds (to (pos 1) (pos 0)) j → Holds (neighbours e i) j
  in_below h = holds_right (to (negsuc 0) (pos 0)) down j (holds_left (to (pos 1) (pos 0)) sideways j h)

  in_left : Holds (to (pos 0) (negsuc 0)) j → Holds (neighbours e i) j
  in_left h = holds_right (to (negsuc 0) (pos 0)) down j (holds_right (to (pos 1) (pos 0)) sideways j (holds_left (to (pos 0) (negsuc 0)) right j h))

  in_right : Holds (to (pos 0) (pos 1)) j → Holds (neighbours e i) j
  in_right h = holds_right (to (negsuc 0) (pos 0)) down j (holds_right (to (pos 1) (pos 0)) sideways j (holds_right (to (pos 0) (negsuc 0)) right j (holds_left (to (pos 0) (pos 1)) [] j h)))

  -- a cell of the grid that has the shifted coordinates is the cell at that shift
  to_from : (s t : ℤ) → j < cell_count e → pos (row e i) +ℤ s ≡ pos (row e j) → pos (column e i) +ℤ t ≡ pos (column e j) → Holds (to s t) j
  to_from s t within r c =
      let some : 0 < e.columns = columns_from e j within in
      among_some (beside e i (s, t)) j
      (ap₂ (cell_at e) r c ∙ cell_from e (row e j) (column e j) (div_below j e.columns e.rows some within) (mod_below j e.columns some) ∙ ap Some (div-add-mod' j e.columns))

  from_next : j < cell_count e → Next e i j → Holds (neighbours e i) j
  from_next within (inl (inr r, c)) = in_above (to_from (negsuc 0) (pos 0) within (omega (arith, ints)) (omega (arith, ints)))
  from_next within (inl (inl r, c)) = in_below (to_from (pos 1) (pos 0) within (omega (arith, ints)) (omega (arith, ints)))
  from_next within (inr (r, inr c)) = in_left (to_from (pos 0) (negsuc 0) within (omega (arith, ints)) (omega (arith, ints)))
  from_next within (inr (r, inl c)) = in_right (to_from (pos 0) (pos 1) within (omega (arith, ints)) (omega (arith, ints)))

  -- what the walk finds in a direction is a neighbour
  pub neighbour_at : (n : ℕ) → n < 4 → Some j ≡ beside e i (direction n) → Holds (neighbours e i) j
  neighbour_at zero h at = in_above (among_some _ j (sym at))
  neighbour_at (suc zero) h at = in_below (among_some _ j (sym at))
  neighbour_at (suc (suc zero)) h at = in_left (among_some _ j (sym at))
  neighbour_at (suc (suc (suc zero))) h at = in_right (among_some _ j (sym at))
  neighbour_at (suc (suc (suc (suc n)))) h at = absurd (omega arith)

-- one more direction of the walk: what holds of each neighbour seen so far
module _ (P : ℕ → Type 0) (e : Extent) (i n : ℕ) (few : n < 4) (each : (j : ℕ) → Holds (seen e i n) j → P j) where
  seen_each : (o : Option ℕ) → o ≡ beside e i (direction n) → ((j : ℕ) → o ≡ Some j → P j) → (j : ℕ) → Holds (seen e i (n + 1)) j → P j
  seen_each o at more j among =
      let both : Holds (seen e i n ++ option_to_list (beside e i (direction n))) j = rw (seen_more e i n few) at among in
      ⊎_elim (each j) (λ k. more j (at ∙ some_among (beside e i (direction n)) j k)) (holds_cases (seen e i n) (option_to_list (beside e i (direction n))) j both)

  pub seen_none : None ≡ beside e i (direction n) → (j : ℕ) → Holds (seen e i (n + 1)) j → P j
  seen_none at = seen_each None at (λ j same. let z : ◌≡◌ {A = ℕ} 0 1 = cc in absurd (omega arith))

  pub seen_some : (k : ℕ) → Some k ≡ beside e i (direction n) → P k → (j : ℕ) → Holds (seen e i (n + 1)) j → P j
  seen_some k at here = seen_each (Some k) at (λ j same. let e' : k ≡ j = cc in subst P e' here)

apart_back : (a b : ℕ) → OneApart a b → OneApart b a
apart_back a b = ⊎_elim inr inl

next_back : (e : Extent) (i j : ℕ) → Next e i j → Next e j i
next_back e i j (inl (r, c)) = inl (apart_back (row e i) (row e j) r, sym c)
next_back e i j (inr (r, c)) = inr (sym r, apart_back (column e i) (column e j) c)

-- of two numbers one apart, one is even
parity : (a b : ℕ) → OneApart a b → (b % 2 == 0) ≡ not (a % 2 == 0)
parity a b h =
    ⊎_elim
    (λ (even : a % 2 ≡ 0). rw (eq-eqb (a % 2) 0 even) (ne_eqb (b % 2) 0 (λ z. ⊎_elim (λ p. omega arith) (λ p. omega arith) h)))
    (λ (odd : a % 2 ≡ 0 → ⊥). rw (ne_eqb (a % 2) 0 odd) (eq-eqb (b % 2) 0 (⊎_elim (λ p. omega arith) (λ p. omega arith) h)))
    (cases_eq (a % 2) 0)

-- the sum of row and column is one more or one less
sums_apart : (e : Extent) (i j : ℕ) → Next e i j → OneApart (row e i + column e i) (row e j + column e j)
sums_apart e i j (inl (inl r, c)) = inl (omega arith)
sums_apart e i j (inl (inr r, c)) = inr (omega arith)
sums_apart e i j (inr (r, inl c)) = inl (omega arith)
sums_apart e i j (inr (r, inr c)) = inr (omega arith)

module _ (e : Extent) (i j : ℕ) (next : Holds (neighbours e i) j) where
  pub neighbour_within : j < cell_count e
  neighbour_within = (next_from e i j next).0

  pub neighbour_back : i < cell_count e → Holds (neighbours e j) i
  neighbour_back within = from_next e j i within (next_back e i j (next_from e i j next).1)

  pub neighbour_other : white e j ≡ not (white e i)
  neighbour_other = parity (row e i + column e i) (row e j + column e j) (sums_apart e i j (next_from e i j next).1)

  pub neighbour_apart : i ≡ j → ⊥
  neighbour_apart same = not_self (white e i) (ap (white e) same ∙ neighbour_other)
    where
      not_self : (t : Bool) → t ≢ not t
      not_self true h = true≢false h
      not_self false h = false≢true h
