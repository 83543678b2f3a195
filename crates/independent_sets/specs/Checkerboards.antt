-- Checkerboards, and the order of independent sets, which turns round on the black cells.
use Rattle.std.specs.Prelude.{◌≡◌, ℕ, ◌<◌, ◌≤◌, Bool, true, false, cond, not, List, length, MatchBool, slice_index, slice_set, refl}
use Rattle.std.proofs.Common.{⊎_elim, ap, ◌∙◌, le_trans, arith}
use Rattle.std.proofs.lemmas.List.FromFn.{get_or-map-range_with_len, length-map-range_with_len}
use Rattle.std.proofs.lemmas.List.{get_or_past, get_or-set_other, get_or-set_same, set_past}
use Rattle.std.proofs.lemmas.Bool.{cases_Bool, cases_eq, cases_lt, cond_both}
use Rattle.lattice.specs.Grid.{Extent, cell_count}
use Rattle.lattice.specs.Kind.{Meaning}
use Rattle.independent_sets.specs.Independent.{checkerboard, independent, independent_sets, white}
use Rattle.lattice.proofs.Cells.{positive_within}
use Rattle.independent_sets.specs.Apart.{Apart, from_apart}
use Rattle.independent_sets.specs.Beside.{neighbour_other, neighbour_within}

-- The order cell by cell. The laws are proved of it, and hold of the order of independent sets because that says the same.
abbrev pub Turned : Extent → List ℕ → List ℕ → Type 0
Turned e x y = (i : ℕ) → MatchBool (white e i) (slice_index x i ≤ slice_index y i) (slice_index y i ≤ slice_index x i)

abbrev pub turned_sets : Extent → Meaning
turned_sets e = record (independent_sets e) { below = Turned e }

-- comparisons that turn round on the black cells
pub when_from : (t : Bool) (P Q : Type 0) → (t ≡ true → P) → (t ≡ false → Q) → MatchBool t P Q
when_from true P Q light dark = light refl
when_from false P Q light dark = dark refl

pub turned_same : (t : Bool) (a b : ℕ) → MatchBool t (a ≤ b) (b ≤ a) → MatchBool t (b ≤ a) (a ≤ b) → a ≡ b
turned_same true a b low high = omega arith
turned_same false a b low high = omega arith

pub turned_along : (t : Bool) (a b c : ℕ) → MatchBool t (a ≤ b) (b ≤ a) → MatchBool t (b ≤ c) (c ≤ b) → MatchBool t (a ≤ c) (c ≤ a)
turned_along true a b c low high = le_trans low high
turned_along false a b c low high = le_trans high low

-- the same change keeps the order where the new values keep it
pub checkerwise_set : (e : Extent) (x y : List ℕ) (i v w : ℕ) → length x ≡ length y → MatchBool (white e i) (v ≤ w) (w ≤ v) → Turned e x y → Turned e (slice_set x i v) (slice_set y i w)
checkerwise_set e x y i v w long here below =
    ⊎_elim
    (λ (within : i < length x) (j : ℕ).
    ⊎_elim
    (λ (same : j ≡ i). let also : i < length y = omega arith in rw (same, get_or-set_same x i v 0 within, get_or-set_same y i w 0 also) here)
    (λ (other : j ≡ i → ⊥). rw (get_or-set_other x i j v 0 other, get_or-set_other y i j w 0 other) (below j))
    (cases_eq j i))
    (λ (past : length x ≤ i). let also : length y ≤ i = omega arith in rw (set_past x i v past, set_past y i w also) below)
    (cases_lt i (length x))

module _ (e : Extent) (on_white on_black : ℕ) where
  pub length_checkerboard : length (checkerboard e on_white on_black) ≡ cell_count e
  length_checkerboard = length-map-range_with_len (λ i. cond (white e i) on_white on_black) 0 (cell_count e)

  pub slice_index_checkerboard : (i : ℕ) → i < cell_count e → slice_index (checkerboard e on_white on_black) i ≡ cond (white e i) on_white on_black
  slice_index_checkerboard i h = get_or-map-range_with_len (λ k. cond (white e k) on_white on_black) 0 (cell_count e) i i 0 h (omega arith)

  pub checkerboard_upto : (i : ℕ) → slice_index (checkerboard e on_white on_black) i ≤ cond (white e i) on_white on_black
  checkerboard_upto i =
      ⊎_elim
      (λ (within : i < cell_count e). omega (arith, slice_index_checkerboard i within))
      (λ (past : cell_count e ≤ i). omega (arith, get_or_past (checkerboard e on_white on_black) i 0 (omega (arith, length_checkerboard))))
      (cases_lt i (cell_count e))

  pub checkerboard_bits : on_white ≤ 1 → on_black ≤ 1 → (i : ℕ) → slice_index (checkerboard e on_white on_black) i ≤ 1
  checkerboard_bits h k i = le_trans (checkerboard_upto i) (cond_both (white e i) on_white on_black (λ v. v ≤ 1) (λ t. h) (λ t. k))

  pub upto_checkerboard : (x : List ℕ) (i : ℕ) → length x ≡ cell_count e → slice_index x i ≤ cond (white e i) on_white on_black → slice_index x i ≤ slice_index (checkerboard e on_white on_black) i
  upto_checkerboard x i long h =
      ⊎_elim
      (λ (within : i < cell_count e). omega (arith, slice_index_checkerboard i within))
      (λ (past : cell_count e ≤ i). omega (arith, get_or_past x i 0 (omega arith)))
      (cases_lt i (cell_count e))

  -- no white cell is occupied beside a black one
  pub checkerboard_apart : (0 < on_white → on_black ≡ 0) → Apart e (checkerboard e on_white on_black)
  checkerboard_apart alone i j h occupied =
      let within : i < cell_count e = omega (arith, positive_within (checkerboard e on_white on_black) i occupied, length_checkerboard) in
      let other = neighbour_other e i j h in
      let here : 0 < cond (white e i) on_white on_black = rw (slice_index_checkerboard i within) at occupied in
      let there = slice_index_checkerboard j (neighbour_within e i j h) in
      ⊎_elim
      (λ (t : white e i ≡ true).
      let some : 0 < on_white = rw t at here in
      let black : white e j ≡ false = other ∙ ap not t in
      there ∙ rw black (alone some))
      (λ (f : white e i ≡ false).
      let some : 0 < on_black = rw f at here in
      let light : white e j ≡ true = other ∙ ap not f in
      there ∙ rw light (⊎_elim (λ (z : on_white < 1). omega arith) (λ (n : 1 ≤ on_white). absurd (omega (arith, alone (omega arith)))) (cases_lt on_white 1)))
      (cases_Bool (white e i))

one_alone : (light : Bool) → 0 < cond light 1 0 → ◌≡◌ {A = ℕ} (cond light 0 1) 0
one_alone true h = refl
one_alone false h = absurd (omega arith)

-- the white cells alone occupied, or the black ones alone
module _ (e : Extent) (light : Bool) where
  abbrev pub coloured : List ℕ
  coloured = checkerboard e (cond light 1 0) (cond light 0 1)

  pub coloured_bits : (i : ℕ) → slice_index coloured i ≤ 1
  coloured_bits = checkerboard_bits e (cond light 1 0) (cond light 0 1) (cond_both light 1 0 (λ v. v ≤ 1) (λ t. omega arith) (λ f. omega arith)) (cond_both light 0 1 (λ v. v ≤ 1) (λ t. omega arith) (λ f. omega arith))

  pub coloured_apart : independent e coloured ≡ true
  coloured_apart = from_apart e coloured (checkerboard_apart e (cond light 1 0) (cond light 0 1) (one_alone light))
