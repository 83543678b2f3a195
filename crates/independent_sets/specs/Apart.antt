-- Independent sets cell by cell: an occupied cell has only empty neighbours.
use Rattle.std.specs.Prelude.{◌≡◌, ℕ, ◌<◌, ◌≤◌, true, false, ◌&&◌, ◌||◌, ◌⊎◌, List, length, take, ◌==◌, ◌≢◌, nat_eq, slice_index, slice_index_or, slice_set}
use Rattle.std.proofs.Common.{inl, inr, ⊎_elim, sym, ◌∙◌, arith}
use Rattle.std.proofs.lemmas.List.{get_or-set_other, get_or-set_same, get_or-take, length-take-le, set_past}
use Rattle.std.proofs.lemmas.Bool.{and_cases, and_parts, cases_Bool, cases_eq, cases_lt, eq-eqb, eqb-false, eqb-true, or_cases, or_left, or_parts, or_right}
use Rattle.std.specs.List.{range_with_len}
use Rattle.lattice.specs.Kind.{Holds}
use Rattle.lattice.specs.Grid.{Extent, cell_count, neighbours}
use Rattle.lattice.proofs.Cells.{positive_within}
use Rattle.independent_sets.specs.Independent.{free, independent, may_follow}
use Rattle.independent_sets.specs.Beside.{neighbour_apart, neighbour_back}
use Rattle.independent_sets.specs.Members.{counted, fail_at, pass_at, pass_from}

module _ (e : Extent) (x : List ℕ) where
  abbrev pub Apart : Type 0
  Apart = (i j : ℕ) → Holds (neighbours e i) j → 0 < slice_index x i → slice_index x j ≡ 0

  pub free_at : (i j : ℕ) → free e x i ≡ true → Holds (neighbours e i) j → slice_index x j ≡ 0
  free_at i j t h = eqb-true (slice_index x j) 0 (pass_at (λ k. nat_eq (slice_index x k) 0) (neighbours e i) j t h)

  pub free_from : (i : ℕ) → ((j : ℕ) → Holds (neighbours e i) j → slice_index x j ≡ 0) → free e x i ≡ true
  free_from i each = pass_from (λ k. nat_eq (slice_index x k) 0) (neighbours e i) (λ j h. eq-eqb (slice_index x j) 0 (each j h))

  pub not_free : (i : ℕ) → free e x i ≡ false → (j : ℕ) × Holds (neighbours e i) j × (0 < slice_index x j)
  not_free i f =
      let p = fail_at (λ k. nat_eq (slice_index x k) 0) (neighbours e i) f in
      (p.0, p.1, omega (arith, eqb-false (slice_index x p.0) 0 p.2))

  pub taken : (i j : ℕ) → Holds (neighbours e i) j → (slice_index x j ≢ 0) → free e x i ≡ false
  taken i j h occupied = ⊎_elim (λ (t : free e x i ≡ true). absurd (occupied (free_at i j t h))) (λ f. f) (cases_Bool (free e x i))

  pub apart_from : length x ≡ cell_count e → independent e x ≡ true → Apart
  apart_from long t i j h occupied =
      let within : i < cell_count e = omega (arith, positive_within x i occupied) in
      let passes = pass_at (λ k. (slice_index x k == 0) || free e x k) (range_with_len 0 (cell_count e)) i t (counted 0 (cell_count e) i (omega arith) (omega arith)) in
      ⊎_elim
      (λ (z : nat_eq (slice_index x i) 0 ≡ true). absurd (omega (arith, eqb-true (slice_index x i) 0 z)))
      (λ (f : free e x i ≡ true). free_at i j f h)
      (or_cases (slice_index x i == 0) (free e x i) passes)

  pub from_apart : Apart → independent e x ≡ true
  from_apart apart =
      pass_from (λ k. (slice_index x k == 0) || free e x k) (range_with_len 0 (cell_count e))
      (λ i h.
      ⊎_elim
      (λ (z : slice_index_or x i 0 ≡ 0). or_left (slice_index x i == 0) (free e x i) (eq-eqb (slice_index x i) 0 z))
      (λ (n : slice_index_or x i 0 ≡ 0 → ⊥). or_right (slice_index x i == 0) (free e x i) (free_from i (λ j k. apart i j k (omega arith))))
      (cases_eq (slice_index x i) 0))

-- emptying a cell, or occupying one whose neighbours are empty
pub set_apart : (e : Extent) (x : List ℕ) (i v : ℕ) → length x ≡ cell_count e → Apart e x → (0 < v → free e x i ≡ true) → Apart e (slice_set x i v)
set_apart e x i v long apart allowed =
    ⊎_elim
    (λ (past : length x ≤ i). rw (set_past x i v past) apart)
    (λ (within : i < length x) (k j : ℕ) (h : Holds (neighbours e k) j) (occupied : 0 < slice_index (slice_set x i v) k).
    ⊎_elim
    (λ (here : k ≡ i).
    let other : j ≡ i → ⊥ = λ same. neighbour_apart e k j h (here ∙ sym same) in
    let some : 0 < v = rw (here, get_or-set_same x i v 0 within) at occupied in
    get_or-set_other x i j v 0 other ∙ free_at e x i j (allowed some) (rw here at h))
    (λ (elsewhere : k ≡ i → ⊥).
    let kept : 0 < slice_index_or x k 0 = rw (get_or-set_other x i k v 0 elsewhere) at occupied in
    ⊎_elim
    (λ (there : j ≡ i).
    let back : Holds (neighbours e i) k = rw there at (neighbour_back e k j h (omega (arith, positive_within x k kept))) in
    let none : v ≡ 0 = ⊎_elim (λ (z : v < 1). omega arith) (λ (some : 1 ≤ v). absurd (omega (arith, free_at e x i k (allowed (omega arith)) back))) (cases_lt v 1) in
    rw (there, get_or-set_same x i v 0 within) none)
    (λ (other : j ≡ i → ⊥). get_or-set_other x i j v 0 other ∙ apart k j h kept)
    (cases_eq j i))
    (cases_eq k i))
    (⊎_elim inr inl (cases_lt i (length x)))

-- what a cell is known to hold that may follow those before it
pub follows_parts : (e : Extent) (before : List ℕ) (v : ℕ) → may_follow e before v ≡ true → (v ≤ 1) × (0 < v → free e before (length before) ≡ true)
follows_parts e before v t =
    ⊎_elim
    (λ (z : nat_eq v 0 ≡ true). let none = eqb-true v 0 z in (omega arith, λ some. absurd (omega arith)))
    (λ (one : (v == 1 && free e before (length before)) ≡ true).
    let p = and_parts (v == 1) (free e before (length before)) one in
    (omega (arith, eqb-true v 1 p.0), λ some. p.1))
    (or_cases (v == 0) (v == 1 && free e before (length before)) t)

module _ (e : Extent) (x : List ℕ) (n : ℕ) (few : n ≤ cell_count e) (long : n ≤ length x) (follow : (j : ℕ) → j < n → may_follow e (take j x) (slice_index x j) ≡ true) where
  pub follow_upto : (j : ℕ) → j < n → slice_index x j ≤ 1
  follow_upto j h = (follows_parts e (take j x) (slice_index x j) (follow j h)).0

  -- a neighbour before an occupied cell is empty
  before_empty : (i j : ℕ) → i < n → j < i → Holds (neighbours e i) j → 0 < slice_index x i → slice_index x j ≡ 0
  before_empty i j h before beside occupied =
      let allowed = (follows_parts e (take i x) (slice_index x i) (follow i h)).1 occupied in
      let here : free e (take i x) i ≡ true = rw (length-take-le i x (omega arith)) at allowed in
      sym (get_or-take i x j 0 before) ∙ free_at e (take i x) i j here beside

  pub follow_apart : (i j : ℕ) → i < n → j < n → Holds (neighbours e i) j → 0 < slice_index x i → slice_index x j ≡ 0
  follow_apart i j hi hj beside occupied =
      ⊎_elim
      (λ (before : j < i). before_empty i j hi before beside occupied)
      (λ (from : i ≤ j).
      let other : i ≡ j → ⊥ = neighbour_apart e i j beside in
      ⊎_elim
      (λ (none : slice_index_or x j 0 < 1). omega arith)
      (λ (some : 1 ≤ slice_index x j). absurd (omega (arith, before_empty j i hj (omega arith) (neighbour_back e i j beside (omega arith)) (omega arith))))
      (cases_lt (slice_index x j) 1))
      (cases_lt j i)

-- a cell that may not follow is no value, or has an occupied neighbour before it
pub stops_parts : (e : Extent) (x : List ℕ) (i : ℕ) → i ≤ length x → may_follow e (take i x) (slice_index x i) ≡ false → (1 < slice_index x i) ⊎ ((0 < slice_index x i) × ((j : ℕ) × (j < i) × Holds (neighbours e i) j × (0 < slice_index x j)))
stops_parts e x i long f =
    let v = slice_index_or x i 0 in
    let size = length-take-le i x long in
    let p = or_parts (v == 0) (v == 1 && free e (take i x) (length (take i x))) f in
    let some = eqb-false v 0 p.0 in
    ⊎_elim
    (λ (many : nat_eq v 1 ≡ false). let not_one = eqb-false v 1 many in inl (omega (arith, some, not_one)))
    (λ (taken : free e (take i x) (length (take i x)) ≡ false).
    let q = not_free e (take i x) i (rw size at taken) in
    let before : q.0 < i = omega (arith, positive_within (take i x) q.0 q.2) in
    inr (omega (arith, some), (q.0, before, q.1, rw (get_or-take i x q.0 0 before) at q.2)))
    (and_cases (v == 1) (free e (take i x) (length (take i x))) p.1)
