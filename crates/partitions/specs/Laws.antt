-- Plane partitions keep the laws of a kind, whatever their sides and cap.
use Rattle.std.specs.Prelude.{◌≡◌, ℕ, ◌+◌, ◌-◌, ◌^◌, ◌<◌, ◌≤◌, true, false, cond, ltb, List, length, take, replicate, Decides, ◌≢◌, nat_le, nat_lt, slice_index, slice_index_or, slice_set, refl}
use Rattle.std.proofs.Common.{⊎_elim, sym, ap, ◌∙◌, le_refl, zero-add, arith}
use Rattle.std.specs.List.{range_with_len, list_all, AllByRecursion}
use Rattle.std.proofs.lemmas.List.FromFn.{get_or-range_with_len, length-range_with_len}
use Rattle.std.proofs.ByRecursion.{All-from_get_or, All-get_or, All-weaker, Decides-by_and}
use Rattle.std.proofs.lemmas.List.{get_or_append_left, get_or-append_right, get_or_past, get_or-set_same, get_or-take, length-replicate, length-set, length-take-le, set-get_or, take_at}
use Rattle.std.proofs.lemmas.Bool.{cases_Bool, cases_lt, cond_both, le-leb, le-ltb, leb-true, lt-ltb, ltb-true}
use Rattle.lattice.specs.Counts.{Exchanges}
use Rattle.lattice.specs.Grid.{Extent, cell_count}
use Rattle.lattice.specs.Kind.{Lawful, FirstBad, Ordered, Bounded, Closed, Monotone, Distinct, Sized}
use Rattle.lattice.specs.Lists.{value_lists}
use Rattle.lattice.specs.Words.{level, middle_level, site}
use Rattle.lattice.proofs.Cells.{all_upto, above_zeros, begins_same, below_replicate, cellwise_ordered, cellwise_set, filled_up, front, replicate_upto}
use Rattle.lattice.proofs.Halves.{Undo, exchanges as two_way_exchanges}
use Rattle.lattice.proofs.Listed.{kept_holds, kept_once, kept_parts, listed, listed_once, listed_parts}
use Rattle.partitions.specs.Heights.{Falling, falls, highest, lowest, lowered, partitions_meaning, raised}
use Rattle.partitions.specs.HeightsLemmas.{highest_rises, highest_same, highest_set, level_falling, lowered_falling, lowers_order, lowest_rises, lowest_set, raised_falling, raises_order, set_back}

module _ (e : Extent) where
  -- the lawful states
  abbrev pub Fits : List ℕ → ℕ → Type 0
  Fits x k = slice_index x k ≤ highest e x k

  test_decides : (x : List ℕ) → Decides (falls e x) (AllByRecursion (Fits x) (range_with_len 0 (cell_count e)))
  test_decides x =
      Decides-by_and (λ k. nat_le (slice_index x k) (highest e x k)) (Fits x) (list_all (λ k. nat_le (slice_index x k) (highest e x k)))
      (λ k. (leb-true (slice_index x k) (highest e x k), le-leb (slice_index x k) (highest e x k))) refl (λ _ _. refl) (range_with_len 0 (cell_count e))

  counted : (k : ℕ) → k < cell_count e → slice_index (range_with_len 0 (cell_count e)) k ≡ k
  counted k h = get_or-range_with_len 0 (cell_count e) k 0 h ∙ zero-add k

  from_test : (x : List ℕ) (k : ℕ) → falls e x ≡ true → k < cell_count e → Fits x k
  from_test x k t h =
      let all = (test_decides x).0 t in
      rw (counted k h) at (All-get_or (Fits x) (range_with_len 0 (cell_count e)) k 0 (omega (arith, length-range_with_len 0 (cell_count e))) all)

  pub lawful_parts : (x : List ℕ) → Lawful (partitions_meaning e) x → (length x ≡ cell_count e) × Falling e x
  lawful_parts x h =
      let kept = kept_parts (falls e) (value_lists e.largest (cell_count e)) x h in
      let long = (listed_parts e.largest (cell_count e) x kept.0).0 in
      let inside : (k : ℕ) → k < length x → Fits x k = λ k l. from_test x k kept.1 (omega arith) in
      let outside : (k : ℕ) → length x ≤ k → Fits x k = λ k l. omega (arith, get_or_past x k 0 l) in
      (long, λ k. ⊎_elim (inside k) (outside k) (cases_lt k (length x)))

  pub lawful_from : (x : List ℕ) → length x ≡ cell_count e → Falling e x → Lawful (partitions_meaning e) x
  lawful_from x long falling =
      let listed_there = listed e.largest x (all_upto x e.largest (λ k. omega (arith, falling k))) in
      kept_holds (falls e) (value_lists e.largest (cell_count e)) x (rw (sym long) listed_there) ((test_decides x).1 (All-from_get_or (Fits x) (range_with_len 0 (cell_count e)) 0 (λ k h. falling _)))

  pub ordered : Ordered (partitions_meaning e)
  ordered = cellwise_ordered _ _ _ _ (cell_count e) (λ x h. (lawful_parts x h).0)

  pub bounded : Bounded (partitions_meaning e)
  bounded = record {
    bottom_lawful = lawful_from _ (length-replicate _ 0) (level_falling e (cell_count e) 0 (omega arith));
    top_lawful = lawful_from _ (length-replicate _ e.largest) (level_falling e (cell_count e) e.largest (le_refl _));
    above_bottom = λ x h. above_zeros (cell_count e) x;
    below_top = λ x h. let p = lawful_parts x h in rw (sym p.0) (below_replicate x e.largest (λ k. omega (arith, p.1 k)));
  }

  raised_lawful : (i : ℕ) (x : List ℕ) → Lawful (partitions_meaning e) x → Lawful (partitions_meaning e) (raised e i x)
  raised_lawful i x h =
      let p = lawful_parts x h in
      cond_both (nat_lt (slice_index x i) (highest e x i)) (slice_set x i (slice_index x i + 1)) x (Lawful (partitions_meaning e))
      (λ t. lawful_from _ (length-set x i _ ∙ p.0) (raised_falling e x i p.1 (ltb-true _ _ t)))
      (λ f. h)

  lowered_lawful : (i : ℕ) (x : List ℕ) → Lawful (partitions_meaning e) x → Lawful (partitions_meaning e) (lowered e i x)
  lowered_lawful i x h =
      let p = lawful_parts x h in
      cond_both (nat_lt (lowest e x i) (slice_index x i)) (slice_set x i (slice_index x i - 1)) x (Lawful (partitions_meaning e))
      (λ t. lawful_from _ (length-set x i _ ∙ p.0) (lowered_falling e x i p.0 p.1 (ltb-true _ _ t)))
      (λ f. h)

  pub closed : Closed (partitions_meaning e)
  closed w hw x h =
      let i = site (cell_count e) w in
      cond_both (nat_lt (level w) middle_level) (raised e i x) (lowered e i x) (Lawful (partitions_meaning e)) (λ t. raised_lawful i x h) (λ f. lowered_lawful i x h)

  -- a step as the writing of one height
  raised_is : (i : ℕ) (x : List ℕ) → raised e i x ≡ slice_set x i (cond (nat_lt (slice_index x i) (highest e x i)) (slice_index x i + 1) (slice_index x i))
  raised_is i x =
      ⊎_elim
      (λ (t : ltb (slice_index x i) (highest e x i) ≡ true). rw t refl)
      (λ (f : ltb (slice_index x i) (highest e x i) ≡ false). rw f (sym (set-get_or x i 0)))
      (cases_Bool (nat_lt (slice_index x i) (highest e x i)))

  lowered_is : (i : ℕ) (x : List ℕ) → lowered e i x ≡ slice_set x i (cond (nat_lt (lowest e x i) (slice_index x i)) (slice_index x i - 1) (slice_index x i))
  lowered_is i x =
      ⊎_elim
      (λ (t : ltb (lowest e x i) (slice_index x i) ≡ true). rw t refl)
      (λ (f : ltb (lowest e x i) (slice_index x i) ≡ false). rw f (sym (set-get_or x i 0)))
      (cases_Bool (nat_lt (lowest e x i) (slice_index x i)))

  pub monotone : Monotone (partitions_meaning e)
  monotone w hw x y h k below =
      let i = site (cell_count e) w in
      let long = (lawful_parts x h).0 ∙ sym (lawful_parts y k).0 in
      ⊎_elim
      (λ (t : ltb (level w) middle_level ≡ true).
      rw (t, raised_is i x, raised_is i y) (cellwise_set x y i _ _ long (raises_order _ _ _ _ (below i) (highest_rises e x y i below)) below))
      (λ (f : ltb (level w) middle_level ≡ false).
      rw (f, lowered_is i x, lowered_is i y) (cellwise_set x y i _ _ long (lowers_order _ _ _ _ (below i) (lowest_rises e x y i below)) below))
      (cases_Bool (nat_lt (level w) middle_level))

  pub distinct : Distinct (partitions_meaning e).states
  distinct = kept_once (falls e) (value_lists e.largest (cell_count e)) (listed_once e.largest (cell_count e))

  pub sized : e.largest ≤ 255 → Sized (partitions_meaning e) e 8
  sized most x h =
      let p = lawful_parts x h in
      (p.0, All-weaker (λ v. v ≤ e.largest) (λ v. v < 2 ^ 8) (λ v k. omega arith) x (all_upto x e.largest (λ k. omega (arith, p.1 k))))

  -- each way undoes the other
  raise_undone : (x : List ℕ) (i : ℕ) → i < length x → Falling e x → slice_index x i < highest e x i → lowered e i (slice_set x i (slice_index x i + 1)) ≡ x
  raise_undone x i within falling h =
      let v = slice_index x i + 1 in
      let here = get_or-set_same x i v 0 within in
      let may = lt-ltb (lowest e (slice_set x i v) i) (slice_index (slice_set x i v) i) (omega (arith, lowest_set e x i v falling)) in
      let back : slice_index_or (slice_set x i v) i 0 - 1 ≡ slice_index_or x i 0 = omega arith in
      rw (may, back) (set_back x i v)

  lower_undone : (x : List ℕ) (i : ℕ) → i < length x → Falling e x → lowest e x i < slice_index x i → raised e i (slice_set x i (slice_index x i - 1)) ≡ x
  lower_undone x i within falling h =
      let v = slice_index x i - 1 in
      let here = get_or-set_same x i v 0 within in
      let may = lt-ltb (slice_index (slice_set x i v) i) (highest e (slice_set x i v) i) (omega (arith, highest_set e x i v, falling i)) in
      let back : slice_index_or (slice_set x i v) i 0 + 1 ≡ slice_index_or x i 0 = omega arith in
      rw (may, back) (set_back x i v)

  back_down : (x y : List ℕ) (i : ℕ) → i < length x → Falling e x → (x ≢ y) → raised e i x ≡ y → lowered e i y ≡ x
  back_down x y i within falling apart to =
      ⊎_elim
      (λ (t : slice_index_or x i 0 < highest e x i). ap (lowered e i) (sym (rw (lt-ltb (slice_index x i) (highest e x i) t) at to)) ∙ raise_undone x i within falling t)
      (λ (f : highest e x i ≤ slice_index x i). absurd (apart (rw (le-ltb (slice_index x i) (highest e x i) f) at to)))
      (cases_lt (slice_index x i) (highest e x i))

  back_up : (x y : List ℕ) (i : ℕ) → i < length x → Falling e x → (x ≢ y) → lowered e i x ≡ y → raised e i y ≡ x
  back_up x y i within falling apart to =
      ⊎_elim
      (λ (t : lowest e x i < slice_index x i). ap (raised e i) (sym (rw (lt-ltb (lowest e x i) (slice_index x i) t) at to)) ∙ lower_undone x i within falling t)
      (λ (f : slice_index_or x i 0 ≤ lowest e x i). absurd (apart (rw (le-ltb (lowest e x i) (slice_index x i) f) at to)))
      (cases_lt (lowest e x i) (slice_index x i))

  undo : Undo (partitions_meaning e) (raised e) (lowered e) (cell_count e)
  undo i within x y h k apart =
      let p = lawful_parts x h in
      let inside : i < length x = omega arith in
      (back_down x y i inside p.1 apart, back_up x y i inside p.1 apart)

  pub exchanges : 0 < cell_count e → Exchanges (partitions_meaning e)
  exchanges some = two_way_exchanges (partitions_meaning e) (raised e) (lowered e) (cell_count e) some undo (λ w x. refl)

  -- the first cells of falling heights, filled up with 0s
  filled_falling : (x : List ℕ) (i : ℕ) → i ≤ length x → ((j : ℕ) → j < i → Fits x j) → Falling e (front x i)
  filled_falling x i h falling k =
      let y = front x i in
      let size = length-take-le i x h in
      let kept : (j : ℕ) → j < i → slice_index y j ≡ slice_index_or x j 0 = λ j l. get_or_append_left (take i x) (replicate (length x - i) 0) 0 j (omega arith) ∙ get_or-take i x j 0 l in
      let zeros : i ≤ k → slice_index y k ≤ 0 = λ l. omega (arith, get_or-append_right (take i x) (replicate (length x - i) 0) i k 0 size l, replicate_upto (length x - i) 0 0 (k - i) (omega arith)) in
      ⊎_elim
      (λ (l : k < i). omega (arith, kept k l, falling k l, highest_same e y x k (λ j m. kept j (omega arith))))
      (λ (l : i ≤ k). omega (arith, zeros l))
      (cases_lt k i)

  -- the first cell that is too high is the first bad cell
  pub first_bad : (x : List ℕ) (i : ℕ) → length x ≡ cell_count e → i < length x → ((j : ℕ) → j < i → Fits x j) → highest e x i < slice_index x i → FirstBad (partitions_meaning e) x i
  first_bad x i long within falling bad = record {
    within = within;
    before = (
      front x i,
      lawful_from (front x i) (filled_up x i (omega arith) ∙ long) (filled_falling x i (omega arith) falling),
      take_at (take i x) (replicate (length x - i) 0) (length (take i x)) refl,
    );
    up_to = λ b.
        let same = begins_same x b.0 (i + 1) (omega arith) b.2 in
        let fits = (lawful_parts b.0 b.1).1 i in
        omega (arith, same i (omega arith), highest_same e b.0 x i (λ j h. same j (omega arith)));
  }
