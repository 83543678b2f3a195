-- Which cells lie left, right, above and below of one another.
use Rattle.std.specs.Prelude.{◌≡◌, ℕ, suc, ◌+◌, ◌-◌, ◌*◌, ◌/◌, ◌%◌, ◌<◌, ◌≤◌, Bool, true, false, cond, ltb, pos, negsuc, Some, None, nat_lt}
use Rattle.std.proofs.Common.{⊎_elim, ap, subst, ◌∙◌, add-zero, mod-lt, suc-mul, arith}
use Rattle.std.proofs.lemmas.Nat.{div-add-mod', div_below, div-mul-add, mod-mul-add}
use Rattle.std.proofs.lemmas.Bool.{cases_Bool, ltb-false, le-ltb}
use Rattle.lattice.specs.Grid.{Extent, cell_at, cell_count}
use Rattle.lattice.proofs.Neighbours.{cell_from, cell_parts}
use Rattle.partitions.specs.Heights.{cell_above, cell_below, cell_left, cell_right}

left_parts : (e : Extent) (i j : ℕ) → cell_left e i ≡ Some j → (i / e.columns < e.rows) × (1 ≤ i % e.columns) × (i % e.columns < e.columns) × (j ≡ i / e.columns * e.columns + (i % e.columns - 1))
left_parts e i j h =
    let q = i / e.columns in
    let r = i % e.columns in
    let P : Bool → Type 0 = λ t. cell_at e (pos (q + 0)) (cond t (negsuc (1 - suc r)) (pos (r - 1))) ≡ Some j in
    ⊎_elim
    (λ (t : ltb r 1 ≡ true). let none : None ≡ Some j = subst P t h in cc)
    (λ (f : ltb r 1 ≡ false).
    let p = rw (add-zero q) at (cell_parts e (q + 0) (r - 1) j (subst P f h)) in
    let some = ltb-false r 1 f in
    let wide : 0 < e.columns = omega (arith, p.1) in
    (p.0, some, mod-lt i wide, p.2))
    (cases_Bool (nat_lt r 1))

right_parts : (e : Extent) (i j : ℕ) → cell_right e i ≡ Some j → (i / e.columns < e.rows) × (i % e.columns + 1 < e.columns) × (j ≡ i / e.columns * e.columns + (i % e.columns + 1))
right_parts e i j h = rw (add-zero (i / e.columns)) at (cell_parts e (i / e.columns + 0) (i % e.columns + 1) j h)

above_parts : (e : Extent) (i j : ℕ) → cell_above e i ≡ Some j → (1 ≤ i / e.columns) × (i % e.columns < e.columns) × (i / e.columns - 1 < e.rows) × (j ≡ (i / e.columns - 1) * e.columns + i % e.columns)
above_parts e i j h =
    let q = i / e.columns in
    let r = i % e.columns in
    let P : Bool → Type 0 = λ t. cell_at e (cond t (negsuc (1 - suc q)) (pos (q - 1))) (pos (r + 0)) ≡ Some j in
    ⊎_elim
    (λ (t : ltb q 1 ≡ true). let none : None ≡ Some j = subst P t h in cc)
    (λ (f : ltb q 1 ≡ false).
    let p = rw (add-zero r) at (cell_parts e (q - 1) (r + 0) j (subst P f h)) in
    let some = ltb-false q 1 f in
    (some, p.1, p.0, p.2))
    (cases_Bool (nat_lt q 1))

below_parts : (e : Extent) (i j : ℕ) → cell_below e i ≡ Some j → (i / e.columns + 1 < e.rows) × (i % e.columns < e.columns) × (j ≡ (i / e.columns + 1) * e.columns + i % e.columns)
below_parts e i j h = rw (add-zero (i % e.columns)) at (cell_parts e (i / e.columns + 1) (i % e.columns + 0) j h)

pub left_before : (e : Extent) (i j : ℕ) → cell_left e i ≡ Some j → j < i
left_before e i j h = let p = left_parts e i j h in omega (arith, p.1, p.3, div-add-mod' i e.columns)

pub above_before : (e : Extent) (i j : ℕ) → cell_above e i ≡ Some j → j < i
above_before e i j h =
    let p = above_parts e i j h in
    let q = i / e.columns in
    let row : suc (q - 1) ≡ q = omega (arith, p.0) in
    let place = rw row at (suc-mul (q - 1) e.columns) in
    omega (arith, p.1, p.3, place, div-add-mod' i e.columns)

-- the cell to the right of the one to the left is the cell itself, and so for the other ways
pub right_of_left : (e : Extent) (i j : ℕ) → cell_left e i ≡ Some j → cell_right e j ≡ Some i
right_of_left e i j h =
    let p = left_parts e i j h in
    let q = i / e.columns in
    let r = i % e.columns in
    let narrow : r - 1 < e.columns = omega (arith, p.2) in
    let row : j / e.columns ≡ q = ap (λ (n : ℕ). n / e.columns) p.3 ∙ div-mul-add q e.columns (r - 1) narrow in
    let column : j % e.columns ≡ r - 1 = ap (λ (n : ℕ). n % e.columns) p.3 ∙ mod-mul-add q e.columns (r - 1) narrow in
    let back : r - 1 + 1 ≡ r = omega (arith, p.1) in
    rw (add-zero (j / e.columns), row, column, back)
    (cell_from e q r p.0 p.2 ∙ ap Some (div-add-mod' i e.columns))

pub left_of_right : (e : Extent) (i j : ℕ) → cell_right e i ≡ Some j → cell_left e j ≡ Some i
left_of_right e i j h =
    let p = right_parts e i j h in
    let q = i / e.columns in
    let r = i % e.columns in
    let row : j / e.columns ≡ q = ap (λ (n : ℕ). n / e.columns) p.2 ∙ div-mul-add q e.columns (r + 1) p.1 in
    let column : j % e.columns ≡ r + 1 = ap (λ (n : ℕ). n % e.columns) p.2 ∙ mod-mul-add q e.columns (r + 1) p.1 in
    let back : r + 1 - 1 ≡ r = omega arith in
    rw (add-zero (j / e.columns), row, column, le-ltb (r + 1) 1 (omega arith), back)
    (cell_from e q r p.0 (omega (arith, p.1)) ∙ ap Some (div-add-mod' i e.columns))

pub below_of_above : (e : Extent) (i j : ℕ) → i < cell_count e → cell_above e i ≡ Some j → cell_below e j ≡ Some i
below_of_above e i j within h =
    let p = above_parts e i j h in
    let q = i / e.columns in
    let r = i % e.columns in
    let row : j / e.columns ≡ q - 1 = ap (λ (n : ℕ). n / e.columns) p.3 ∙ div-mul-add (q - 1) e.columns r p.1 in
    let column : j % e.columns ≡ r = ap (λ (n : ℕ). n % e.columns) p.3 ∙ mod-mul-add (q - 1) e.columns r p.1 in
    let back : q - 1 + 1 ≡ q = omega (arith, p.0) in
    let last : q < e.rows = div_below i e.columns e.rows (omega (arith, p.1)) within in
    rw (add-zero (j % e.columns), row, column, back)
    (cell_from e q r last p.1 ∙ ap Some (div-add-mod' i e.columns))

pub above_of_below : (e : Extent) (i j : ℕ) → cell_below e i ≡ Some j → cell_above e j ≡ Some i
above_of_below e i j h =
    let p = below_parts e i j h in
    let q = i / e.columns in
    let r = i % e.columns in
    let row : j / e.columns ≡ q + 1 = ap (λ (n : ℕ). n / e.columns) p.2 ∙ div-mul-add (q + 1) e.columns r p.1 in
    let column : j % e.columns ≡ r = ap (λ (n : ℕ). n % e.columns) p.2 ∙ mod-mul-add (q + 1) e.columns r p.1 in
    let back : q + 1 - 1 ≡ q = omega arith in
    rw (add-zero (j % e.columns), row, column, le-ltb (q + 1) 1 (omega arith), back)
    (cell_from e q r (omega (arith, p.0)) p.1 ∙ ap Some (div-add-mod' i e.columns))
