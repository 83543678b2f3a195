-- Spin grids keep the laws of a kind, whatever their sides and their table.
use Rattle.std.specs.Prelude.{◌≡◌, ℕ, zero, suc, ◌+◌, ◌-◌, ◌^◌, ◌<◌, ◌≤◌, cond, List, [], ◌∷◌, length, take, replicate, ◌==◌, nat_eq, nat_lt, slice_index, refl}
use Rattle.std.proofs.Common.{⊎_elim, sym, ◌∙◌, le_refl, arith}
use Rattle.std.proofs.ByRecursion.{All-weaker}
use Rattle.std.proofs.lemmas.List.{length-set, length-replicate, take_at}
use Rattle.std.proofs.lemmas.List.Sums.{sum_by-cons, count_by-le-length}
use Rattle.std.proofs.lemmas.Bool.{cases_lt, cases_eq, eq-eqb, ne_eqb, cond_both, ltb-true, lt-ltb}
use Rattle.lattice.specs.Grid.{Extent, cell_count, neighbours}
use Rattle.lattice.specs.Kind.{Lawful, FirstBad, Ordered, Bounded, Closed, Monotone, Distinct, Sized}
use Rattle.lattice.specs.Lists.{value_lists}
use Rattle.lattice.specs.Orders.{cellwise}
use Rattle.lattice.specs.Words.{site, level}
use Rattle.lattice.proofs.Cells.{append_upto, begins_same, bit_upto, filled_up, front, take_upto, replicate_upto, set_upto, all_upto, upto_all, cellwise_set, cellwise_ordered, below_replicate, above_zeros}
use Rattle.lattice.proofs.Listed.{listed, listed_parts, listed_once}
use Rattle.lattice.proofs.Neighbours.{length_neighbours}
use Rattle.spins.specs.Spin.{holding, threshold_index, spins_meaning}
use Rattle.spins.specs.Table.{Rises}

-- a lower spin counts no more as up, and no less as down
one_up : (a b : ℕ) → a ≤ b → b ≤ 1 → cond (a == 1) 1 0 ≤ cond (b == 1) 1 0
one_up a b h k =
    ⊎_elim
    (λ (e : a ≡ 1). rw (eq-eqb a 1 e, eq-eqb b 1 (omega arith)) (omega arith))
    (λ (d : a ≡ 1 → ⊥). rw (ne_eqb a 1 d) (omega arith))
    (cases_eq a 1)

one_down : (a b : ℕ) → a ≤ b → b ≤ 1 → cond (b == 0) 1 0 ≤ cond (a == 0) 1 0
one_down a b h k =
    ⊎_elim
    (λ (e : b ≡ 0). rw (eq-eqb b 0 e, eq-eqb a 0 (omega arith)) (omega arith))
    (λ (d : b ≡ 0 → ⊥). rw (ne_eqb b 0 d) (omega arith))
    (cases_eq b 0)

module _ (x y : List ℕ) (below : cellwise x y) (spins : (k : ℕ) → slice_index y k ≤ 1) where
  more_up : (places : List ℕ) → holding x 1 places ≤ holding y 1 places
  more_up [] = omega arith
  more_up (i ∷ places) =
      let here = one_up (slice_index x i) (slice_index y i) (below i) (spins i) in
      let rest = more_up places in
      rw (sum_by-cons (λ j. cond (slice_index x j == 1) 1 0) i places, sum_by-cons (λ j. cond (slice_index y j == 1) 1 0) i places) (omega arith)

  fewer_down : (places : List ℕ) → holding y 0 places ≤ holding x 0 places
  fewer_down [] = omega arith
  fewer_down (i ∷ places) =
      let here = one_down (slice_index x i) (slice_index y i) (below i) (spins i) in
      let rest = fewer_down places in
      rw (sum_by-cons (λ j. cond (slice_index x j == 0) 1 0) i places, sum_by-cons (λ j. cond (slice_index y j == 0) 1 0) i places) (omega arith)

  pub index_rises : (e : Extent) (i : ℕ) → threshold_index e x i ≤ threshold_index e y i
  index_rises e i = let ups = more_up (neighbours e i) in let downs = fewer_down (neighbours e i) in omega arith

pub index_within : (e : Extent) (x : List ℕ) (i : ℕ) → threshold_index e x i ≤ 8
index_within e x i =
    let ups = count_by-le-length (λ j. nat_eq (slice_index x j) 1) (neighbours e i) in
    let four = length_neighbours e i in
    omega arith

-- a table that rises from each index to the next rises from each to every later one
pub table_rises : (table : List ℕ) → Rises table 9 → (a b : ℕ) → a ≤ b → b < 9 → slice_index table a ≤ slice_index table b
table_rises table rises a zero h k = let e : a ≡ 0 = omega arith in rw e (le_refl _)
table_rises table rises a (suc b) h k =
    ⊎_elim
    (λ (l : a < suc b).
    let upto = table_rises table rises a b (omega arith) (omega arith) in
    let same : suc b - 1 ≡ b = omega arith in
    let last = rw same at ((rises (suc b) k).1 (omega arith)) in
    omega arith)
    (λ (g : suc b ≤ a). let e : a ≡ suc b = omega arith in rw e (le_refl _))
    (cases_lt a (suc b))

spin_upto : (l t : ℕ) → cond (nat_lt l t) 1 0 ≤ 1
spin_upto l t = bit_upto (nat_lt l t)

spin_rises : (l s t : ℕ) → s ≤ t → cond (nat_lt l s) 1 0 ≤ cond (nat_lt l t) 1 0
spin_rises l s t h =
    ⊎_elim
    (λ (k : l < s). rw (lt-ltb l t (omega arith)) (spin_upto l s))
    (λ (k : s ≤ l). cond_both (nat_lt l s) 1 0 (λ v. v ≤ cond (nat_lt l t) 1 0) (λ e. absurd (omega (arith, ltb-true l s e))) (λ e. omega arith))
    (cases_lt l s)

module _ (e : Extent) (table : List ℕ) where
  pub lawful_parts : (x : List ℕ) → Lawful (spins_meaning e table) x → (length x ≡ cell_count e) × ((k : ℕ) → slice_index x k ≤ 1)
  lawful_parts x h = let p = listed_parts 1 (cell_count e) x h in (p.0, upto_all x 1 p.1)

  pub lawful_from : (x : List ℕ) → length x ≡ cell_count e → ((k : ℕ) → slice_index x k ≤ 1) → Lawful (spins_meaning e table) x
  lawful_from x long each = rw (sym long) (listed 1 x (all_upto x 1 each))

  pub ordered : Ordered (spins_meaning e table)
  ordered = cellwise_ordered _ _ _ _ (cell_count e) (λ x h. (lawful_parts x h).0)

  pub bounded : Bounded (spins_meaning e table)
  bounded = record {
    bottom_lawful = lawful_from _ (length-replicate _ 0) (λ k. replicate_upto (cell_count e) 0 1 k (omega arith));
    top_lawful = lawful_from _ (length-replicate _ 1) (λ k. replicate_upto (cell_count e) 1 1 k (omega arith));
    above_bottom = λ x h. above_zeros (cell_count e) x;
    below_top = λ x h. let p = lawful_parts x h in rw (sym p.0) (below_replicate x 1 p.1);
  }

  pub closed : Closed (spins_meaning e table)
  closed w hw x h = let p = lawful_parts x h in lawful_from _ (length-set x _ _ ∙ p.0) (set_upto x _ _ 1 p.1 (spin_upto _ _))

  pub monotone : Rises table 9 → Monotone (spins_meaning e table)
  monotone rises w hw x y h k below =
      let p = lawful_parts x h in
      let q = lawful_parts y k in
      let i = site (cell_count e) w in
      let last = index_within e y i in
      let rise = table_rises table rises (threshold_index e x i) (threshold_index e y i) (index_rises x y below q.1 e i) (omega arith) in
      cellwise_set x y i _ _ (p.0 ∙ sym q.0) (spin_rises (level w) _ _ rise) below

  pub distinct : Distinct (value_lists 1 (cell_count e))
  distinct = listed_once 1 (cell_count e)

  pub sized : Sized (spins_meaning e table) e 1
  sized x h = let p = listed_parts 1 (cell_count e) x h in (p.0, All-weaker (λ v. v ≤ 1) (λ v. v < 2 ^ 1) (λ v k. omega arith) x p.1)

  -- the first cell that is no spin is the first bad cell
  pub first_bad : (x : List ℕ) (i : ℕ) → length x ≡ cell_count e → i < length x → ((j : ℕ) → j < i → slice_index x j ≤ 1) → 1 < slice_index x i → FirstBad (spins_meaning e table) x i
  first_bad x i long within spins bad = record {
    within = within;
    before = (
      front x i,
      lawful_from (front x i) (filled_up x i (omega arith) ∙ long) (append_upto (take i x) (replicate (length x - i) 0) 1 (take_upto x i 1 spins) (λ k. replicate_upto (length x - i) 0 1 k (omega arith))),
      take_at (take i x) (replicate (length x - i) 0) (length (take i x)) refl,
    );
    up_to = λ b.
        let same = begins_same x b.0 (i + 1) (omega arith) b.2 i (omega arith) in
        let spin = (lawful_parts b.0 b.1).1 i in
        omega arith;
  }
