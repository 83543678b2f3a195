-- All lists of a length with values from 0 up to a bound.
use Rattle.std.specs.Prelude.{ℕ, zero, suc, List, [], ◌∷◌, map}
use Rattle.std.specs.List.{range_with_len, flat_map}

-- The lists of n values from 0 to m.
unfoldable pub value_lists : (m n : ℕ) → List (List ℕ)
value_lists m zero = [] ∷ []
value_lists m (suc n) = flat_map (λ v. map (λ x. v ∷ x) (value_lists m n)) (range_with_len 0 (suc m))
