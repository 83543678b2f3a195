-- The cell at a row and a column; a walk through the four directions, and the neighbours that it has seen.
use Rattle.std.specs.Prelude.{◌*◌, true, false, ◌&&◌, nat_lt, refl}
use Rattle.std.proofs.Common.{⊎_elim, ◌≡◌, ℕ, ◌+◌, ◌<◌, ◌≤◌, List, [], ◌∷◌, ◌++◌, length, get_or, take, ℤ, pos, Some, None, Option, sym, ap, ◌∙◌, arith}
use Rattle.std.specs.List.{flat_map}
use Rattle.std.specs.Option.{option_to_list}
use Rattle.std.proofs.lemmas.List.{length-append, take_more, flat_map_more}
use Rattle.std.proofs.lemmas.Bool.{and_parts, cases_Bool, lt-ltb, ltb-true}
use Rattle.lattice.specs.Grid.{Extent, beside, cell_at, directions, neighbours}

-- a row and a column that the grid has
pub cell_parts : (e : Extent) (r c j : ℕ) → cell_at e (pos r) (pos c) ≡ Some j → (r < e.rows) × (c < e.columns) × (j ≡ r * e.columns + c)
cell_parts e r c j h =
    ⊎_elim
    (λ (t : (nat_lt r e.rows && nat_lt c e.columns) ≡ true).
    let both = and_parts (nat_lt r e.rows) (nat_lt c e.columns) t in
    let some : Some (r * e.columns + c) ≡ Some j = rw t at h in
    (ltb-true r e.rows both.0, ltb-true c e.columns both.1, cc))
    (λ (f : (nat_lt r e.rows && nat_lt c e.columns) ≡ false). let none : None ≡ Some j = rw f at h in cc)
    (cases_Bool (nat_lt r e.rows && nat_lt c e.columns))

pub cell_from : (e : Extent) (r c : ℕ) → r < e.rows → c < e.columns → cell_at e (pos r) (pos c) ≡ Some (r * e.columns + c)
cell_from e r c low left = rw (lt-ltb r e.rows low, lt-ltb c e.columns left) refl

-- the neighbours in the first n directions
abbrev pub seen : Extent → ℕ → ℕ → List ℕ
seen e i n = flat_map (λ shift. option_to_list (beside e i shift)) (take n directions)

-- the direction with this number
abbrev pub direction : ℕ → ℤ × ℤ
direction n = get_or directions n (pos 0, pos 0)

pub seen_more : (e : Extent) (i n : ℕ) → n < 4 → seen e i (n + 1) ≡ seen e i n ++ option_to_list (beside e i (direction n))
seen_more e i n h =
    ap (flat_map (λ s. option_to_list (beside e i s))) (take_more directions n (pos 0, pos 0) h)
    ∙ sym (flat_map_more (λ s. option_to_list (beside e i s)) [] (take n directions) (direction n))

length_some : {X : Type 0} (f : X → Option ℕ) (xs : List X) → length (flat_map (λ s. option_to_list (f s)) xs) ≤ length xs
length_some f [] = omega arith
length_some f (x ∷ xs) =
    let rest = length_some f xs in
    let sum = length-append (option_to_list (f x)) (flat_map (λ s. option_to_list (f s)) xs) in
    let one = at_most_one (f x) in
    omega arith
  where
    at_most_one : (o : Option ℕ) → length (option_to_list o) ≤ 1
    at_most_one None = omega arith
    at_most_one (Some j) = omega arith

pub length_neighbours : (e : Extent) (i : ℕ) → length (neighbours e i) ≤ 4
length_neighbours e i = length_some (beside e i) directions
