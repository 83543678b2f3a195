-- How many of the neighbours that a walk has seen hold a value.
use Rattle.std.proofs.Common.{◌≡◌, ℕ, ◌+◌, ◌<◌, cond, eqb, List, get_or, Some, None, Option, sym, ap, ◌∙◌, arith}
use Rattle.std.specs.Option.{option_to_list}
use Rattle.std.proofs.lemmas.List.Sums.{sum_by-append}
use Rattle.std.proofs.lemmas.Bool.{eq-eqb, ne_eqb}
use Rattle.lattice.specs.Grid.{Extent, beside}
use Rattle.lattice.proofs.Neighbours.{direction, seen, seen_more}
use Rattle.spins.specs.Spin.{holding}

holding_more : (e : Extent) (x : List ℕ) (v i n : ℕ) (o : Option ℕ) → n < 4 → o ≡ beside e i (direction n) → holding x v (seen e i (n + 1)) ≡ holding x v (seen e i n) + holding x v (option_to_list o)
holding_more e x v i n o h at =
    ap (holding x v) (seen_more e i n h)
    ∙ sum_by-append (λ j. cond (eqb (get_or x j 0) v) 1 0) (seen e i n) (option_to_list (beside e i (direction n)))
    ∙ ap (λ (p : Option ℕ). holding x v (seen e i n) + holding x v (option_to_list p)) (sym at)

pub holding_none : (e : Extent) (x : List ℕ) (v i n : ℕ) → n < 4 → None ≡ beside e i (direction n) → holding x v (seen e i (n + 1)) ≡ holding x v (seen e i n)
holding_none e x v i n h at = let m = holding_more e x v i n None h at in omega arith

pub holding_yes : (e : Extent) (x : List ℕ) (v i n j : ℕ) → n < 4 → Some j ≡ beside e i (direction n) → get_or x j 0 ≡ v → holding x v (seen e i (n + 1)) ≡ holding x v (seen e i n) + 1
holding_yes e x v i n j h at is = let m = rw (eq-eqb (get_or x j 0) v is) at (holding_more e x v i n (Some j) h at) in m

pub holding_no : (e : Extent) (x : List ℕ) (v i n j : ℕ) → n < 4 → Some j ≡ beside e i (direction n) → (get_or x j 0 ≡ v → ⊥) → holding x v (seen e i (n + 1)) ≡ holding x v (seen e i n)
holding_no e x v i n j h at not = let m = rw (ne_eqb (get_or x j 0) v not) at (holding_more e x v i n (Some j) h at) in omega arith
