-- Independent sets keep the laws of a kind and the exchange law, whatever their sides.
use Rattle.std.specs.Prelude.{◌≡◌, ℕ, ◌+◌, ◌-◌, ◌^◌, ◌<◌, ◌≤◌, Bool, true, false, cond, not, ltb, List, length, take, set, replicate, nat_lt, slice_index, slice_index_or, slice_set, refl}
use Rattle.std.proofs.Common.{⊎_elim, sym, ap, ◌∙◌, le_refl, arith}
use Rattle.std.proofs.ByRecursion.{All-weaker}
use Rattle.std.proofs.lemmas.List.{ext_get_or, get_or_append_left, get_or-append_right, get_or_past, get_or-set_other, get_or-take, length-set, length-take-le, set-get_or, set-set, take_at}
use Rattle.std.proofs.lemmas.Bool.{cases_Bool, cases_lt, cond_both}
use Rattle.lattice.specs.Counts.{Exchanges}
use Rattle.lattice.specs.Grid.{Extent, cell_count}
use Rattle.lattice.specs.Kind.{Bounded, Closed, Distinct, FirstBad, Lawful, Monotone, Ordered, Sized}
use Rattle.lattice.specs.Lists.{value_lists}
use Rattle.lattice.specs.Words.{level, middle_level, site}
use Rattle.lattice.proofs.Cells.{all_upto, append_upto, begins_same, bit_upto, filled_up, front, positive_within, replicate_upto, set_upto, take_upto, upto_all}
use Rattle.lattice.proofs.Halves.{Undo, exchanges}
use Rattle.lattice.proofs.Listed.{kept_holds, kept_once, kept_parts, listed, listed_once, listed_parts}
use Rattle.independent_sets.specs.Independent.{checkerboard, clear, fill, free, independent, independent_sets, may_follow, white}
use Rattle.independent_sets.specs.Apart.{Apart, apart_from, follow_apart, follow_upto, free_at, free_from, from_apart, set_apart, stops_parts}
use Rattle.independent_sets.specs.Beside.{neighbour_apart, neighbour_other}
use Rattle.independent_sets.specs.Checkerboards.{Turned, checkerboard_apart, checkerboard_bits, checkerboard_upto, checkerwise_set, coloured, coloured_apart, coloured_bits, length_checkerboard, turned_along, turned_same, turned_sets, upto_checkerboard, when_from}

bit_rises : (s t : Bool) → (s ≡ true → t ≡ true) → cond s 1 0 ≤ cond t 1 0
bit_rises true t h = rw (h refl) (omega arith)
bit_rises false t h = omega arith

bit_set : (t : Bool) → 0 < cond t 1 0 → t ≡ true
bit_set true h = refl
bit_set false h = absurd (omega arith)

-- a higher state leaves the white cells freer and the black ones less free
module _ (e : Extent) (x y : List ℕ) (below : Turned e x y) (i : ℕ) where
  freer : white e i ≡ true → free e x i ≡ true → free e y i ≡ true
  freer light f =
      free_from e y i
      (λ j h.
      let black : white e j ≡ false = neighbour_other e i j h ∙ ap not light in
      let low : slice_index_or y j 0 ≤ slice_index_or x j 0 = rw black at (below j) in
      omega (arith, free_at e x i j f h))

  less_free : white e i ≡ false → free e y i ≡ true → free e x i ≡ true
  less_free dark f =
      free_from e x i
      (λ j h.
      let light : white e j ≡ true = neighbour_other e i j h ∙ ap not dark in
      let low : slice_index_or x j 0 ≤ slice_index_or y j 0 = rw light at (below j) in
      omega (arith, free_at e y i j f h))

module _ (e : Extent) where
  pub lawful_parts : (x : List ℕ) → Lawful (independent_sets e) x → (length x ≡ cell_count e) × ((k : ℕ) → slice_index x k ≤ 1) × Apart e x
  lawful_parts x h =
      let kept = kept_parts (independent e) (value_lists 1 (cell_count e)) x h in
      let p = listed_parts 1 (cell_count e) x kept.0 in
      (p.0, upto_all x 1 p.1, apart_from e x p.0 kept.1)

  pub lawful_from : (x : List ℕ) → length x ≡ cell_count e → ((k : ℕ) → slice_index x k ≤ 1) → independent e x ≡ true → Lawful (independent_sets e) x
  lawful_from x long each t = kept_holds (independent e) (value_lists 1 (cell_count e)) x (rw (sym long) (listed 1 x (all_upto x 1 each))) t

  pub ordered : Ordered (turned_sets e)
  ordered = record {
    reflexive = λ x h i. when_from (white e i) _ _ (λ t. le_refl _) (λ t. le_refl _);
    antisymmetric = λ x y h k low high. ext_get_or 0 x y ((lawful_parts x h).0 ∙ sym (lawful_parts y k).0) (λ i l. turned_same (white e i) _ _ (low i) (high i));
    transitive = λ x y z h k l low high i. turned_along (white e i) _ _ _ (low i) (high i);
  }

  checkerboard_lawful : (on_white on_black : ℕ) → on_white ≤ 1 → on_black ≤ 1 → (0 < on_white → on_black ≡ 0) → Lawful (independent_sets e) (checkerboard e on_white on_black)
  checkerboard_lawful on_white on_black h k alone =
      lawful_from (checkerboard e on_white on_black) (length_checkerboard e on_white on_black) (checkerboard_bits e on_white on_black h k) (from_apart e _ (checkerboard_apart e on_white on_black alone))

  coloured_lawful : (light : Bool) → Lawful (independent_sets e) (coloured e light)
  coloured_lawful light = lawful_from (coloured e light) (length_checkerboard e _ _) (coloured_bits e light) (coloured_apart e light)

  pub bounded : Bounded (turned_sets e)
  bounded = record {
    bottom_lawful = coloured_lawful false;
    top_lawful = coloured_lawful true;
    above_bottom = λ x h i.
        let p = lawful_parts x h in
        let low = checkerboard_upto e 0 1 i in
        when_from (white e i) _ _
        (λ light. let none : slice_index_or (checkerboard e 0 1) i 0 ≤ 0 = rw light at low in omega arith)
        (λ dark. upto_checkerboard e 0 1 x i p.0 (rw dark (p.1 i)));
    below_top = λ x h i.
        let p = lawful_parts x h in
        let low = checkerboard_upto e 1 0 i in
        when_from (white e i) _ _
        (λ light. upto_checkerboard e 1 0 x i p.0 (rw light (p.1 i)))
        (λ dark. let none : slice_index_or (checkerboard e 1 0) i 0 ≤ 0 = rw dark at low in omega arith);
  }

  set_lawful : (x : List ℕ) (i v : ℕ) → Lawful (independent_sets e) x → v ≤ 1 → (0 < v → free e x i ≡ true) → Lawful (independent_sets e) (slice_set x i v)
  set_lawful x i v h few allowed =
      let p = lawful_parts x h in
      lawful_from (slice_set x i v) (length-set x i v ∙ p.0) (set_upto x i v 1 p.1 few) (from_apart e (slice_set x i v) (set_apart e x i v p.0 p.2 allowed))

  pub closed : Closed (independent_sets e)
  closed w hw x h =
      let i = site (cell_count e) w in
      cond_both (nat_lt (level w) middle_level) (fill e i x) (clear i x) (Lawful (independent_sets e))
      (λ t. set_lawful x i _ h (bit_upto (free e x i)) (bit_set (free e x i)))
      (λ t. set_lawful x i 0 h (omega arith) (λ some. absurd (omega arith)))

  pub monotone : Monotone (turned_sets e)
  monotone w hw x y h k below =
      let i = site (cell_count e) w in
      let long = (lawful_parts x h).0 ∙ sym (lawful_parts y k).0 in
      ⊎_elim
      (λ (t : ltb (level w) middle_level ≡ true).
      rw t
      (checkerwise_set e x y i _ _ long
      (when_from (white e i) _ _ (λ light. bit_rises _ _ (freer e x y below i light)) (λ dark. bit_rises _ _ (less_free e x y below i dark)))
      below))
      (λ (f : ltb (level w) middle_level ≡ false). rw f (checkerwise_set e x y i 0 0 long (when_from (white e i) _ _ (λ light. le_refl _) (λ dark. le_refl _)) below))
      (cases_Bool (nat_lt (level w) middle_level))

  pub distinct : Distinct (independent_sets e).states
  distinct = kept_once (independent e) (value_lists 1 (cell_count e)) (listed_once 1 (cell_count e))

  pub sized : Sized (independent_sets e) e 1
  sized x h =
      let p = listed_parts 1 (cell_count e) x (kept_parts (independent e) (value_lists 1 (cell_count e)) x h).0 in
      (p.0, All-weaker (λ v. v ≤ 1) (λ v. v < 2 ^ 1) (λ v k. omega arith) x p.1)

  -- the cells before one, and empty ones after them
  front_same : (x : List ℕ) (i : ℕ) → i ≤ length x → (k : ℕ) → 0 < slice_index (front x i) k → (k < i) × (slice_index (front x i) k ≡ slice_index x k)
  front_same x i long k occupied =
      let size = length-take-le i x long in
      ⊎_elim
      (λ (before : k < i). (before, get_or_append_left (take i x) (replicate (length x - i) 0) 0 k (omega arith) ∙ get_or-take i x k 0 before))
      (λ (from : i ≤ k). absurd (omega (arith, get_or-append_right (take i x) (replicate (length x - i) 0) i k 0 size from, replicate_upto (length x - i) 0 0 (k - i) (omega arith))))
      (cases_lt k i)

  front_lawful : (x : List ℕ) (i : ℕ) → length x ≡ cell_count e → i ≤ length x → ((j : ℕ) → j < i → may_follow e (take j x) (slice_index x j) ≡ true) → Lawful (independent_sets e) (front x i)
  front_lawful x i long few follow =
      lawful_from (front x i) (filled_up x i few ∙ long)
      (append_upto (take i x) (replicate (length x - i) 0) 1 (take_upto x i 1 (follow_upto e x i (omega arith) few follow)) (λ k. replicate_upto (length x - i) 0 1 k (omega arith)))
      (from_apart e (front x i)
      (λ k j h occupied.
      let here = front_same x i few k occupied in
      ⊎_elim
      (λ (none : slice_index_or (front x i) j 0 < 1). omega arith)
      (λ (some : 1 ≤ slice_index (front x i) j).
      let there = front_same x i few j (omega arith) in
      there.1 ∙ follow_apart e x i (omega arith) few follow k j here.0 there.0 h (omega (arith, here.1)))
      (cases_lt (slice_index (front x i) j) 1)))

  -- the first cell that may not follow those before it is the first bad cell
  pub first_bad : (x : List ℕ) (i : ℕ) → length x ≡ cell_count e → i < length x → ((j : ℕ) → j < i → may_follow e (take j x) (slice_index x j) ≡ true) → may_follow e (take i x) (slice_index x i) ≡ false → FirstBad (independent_sets e) x i
  first_bad x i long within follow stops = record {
    within = within;
    before = (front x i, front_lawful x i long (omega arith) follow, take_at (take i x) (replicate (length x - i) 0) (length (take i x)) refl);
    up_to = λ b.
        let same : (j : ℕ) → j < i + 1 → slice_index b.0 j ≡ slice_index_or x j 0 = begins_same x b.0 (i + 1) (omega arith) b.2 in
        let p = lawful_parts b.0 b.1 in
        ⊎_elim
        (λ (many : 1 < slice_index x i). omega (arith, same i (omega arith), p.1 i))
        (λ q.
        let j = q.1.0 in
        let here : 0 < slice_index_or b.0 i 0 = omega (arith, same i (omega arith), q.0) in
        omega (arith, p.2 i j q.1.2 here, same j (omega (arith, q.1.1)), q.1.3))
        (stops_parts e x i (omega arith) stops);
  }

  -- cells of which each may follow those before it are lawful
  pub follow_lawful : (x : List ℕ) → length x ≡ cell_count e → ((j : ℕ) → j < length x → may_follow e (take j x) (slice_index x j) ≡ true) → ((k : ℕ) → slice_index x k ≤ 1) × (independent e x ≡ true)
  follow_lawful x long follow = (
    λ k. ⊎_elim (follow_upto e x (length x) (omega arith) (le_refl _) follow k) (λ (past : length x ≤ k). omega (arith, get_or_past x k 0 past)) (cases_lt k (length x)),
    from_apart e x
        (λ i j h occupied.
        ⊎_elim
        (λ (within : j < length x). follow_apart e x (length x) (omega arith) (le_refl _) follow i j (positive_within x i occupied) within h occupied)
        (get_or_past x j 0)
        (cases_lt j (length x))),
  )

  undo : Undo (independent_sets e) (fill e) clear (cell_count e)
  undo i within x y hx hy apart =
      let p = lawful_parts x hx in
      let inside : i < length x = omega arith in
      let bit = p.1 i in
      let alone : 0 < slice_index x i → free e x i ≡ true = λ some. free_from e x i (λ j h. p.2 i j h some) in
      ⊎_elim
      (λ (some : 0 < slice_index x i).
      let one : 1 ≡ slice_index_or x i 0 = omega arith in
      let back : set x i 1 ≡ x = rw one (set-get_or x i 0) in (
        λ rise. absurd (apart (sym back ∙ sym (ap (λ (t : Bool). set x i (cond t 1 0)) (alone some)) ∙ rise)),
        λ fall.
            let cleared : free e (slice_set x i 0) i ≡ true = free_from e (slice_set x i 0) i (λ j h. get_or-set_other x i j 0 0 (λ same. neighbour_apart e i j h (sym same)) ∙ p.2 i j h some) in
            ap (fill e i) (sym fall) ∙ ap (λ (t : Bool). set (slice_set x i 0) i (cond t 1 0)) cleared ∙ set-set x i 0 1 ∙ back,
      ))
      (λ (none : slice_index_or x i 0 ≤ 0).
      let empty : 0 ≡ slice_index_or x i 0 = omega arith in
      let back : set x i 0 ≡ x = rw empty (set-get_or x i 0) in
      (λ rise. ap (clear i) (sym rise) ∙ set-set x i _ 0 ∙ back, λ fall. absurd (apart (sym back ∙ fall))))
      (cases_lt 0 (slice_index x i))

  pub even : 0 < cell_count e → Exchanges (independent_sets e)
  even some = exchanges (independent_sets e) (fill e) clear (cell_count e) some undo (λ w x. refl)
