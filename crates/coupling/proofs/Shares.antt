-- Equal shares: a list that meets in a state leads every start there, and one that is apart leads at most all of them.
use Rattle.std.proofs.Common.{◌≡◌, ℕ, ◌+◌, ◌*◌, ◌≤◌, cond, List, length, refl, ap, ◌∙◌, arith}
use Rattle.std.specs.Str.{bytes_eq}
use Rattle.lattice.proofs.Cells.{bit_upto}
use Rattle.lattice.specs.Counts.{Exchanges, same_as}
use Rattle.lattice.specs.Kind.{Distinct, Meaning}
use Rattle.coupling.specs.Lead.{Ends, Words, apart_at, lead, met_in, outcome}
use Rattle.coupling.specs.Shares.{EqualShares, is_apart, is_met_in}
use Rattle.coupling.proofs.Laws.{Laws}
use Rattle.coupling.proofs.Sandwich.{meets_where_all_end}
use Rattle.coupling.proofs.Stationary.{lists_to}
use Rattle.coupling.proofs.Sums.{lists_add, lists_le, lists_over, lists_times, over, over_constant, over_le, over_same}

at_most_one : (x y : List ℕ) → same_as x y ≤ 1
at_most_one x y = bit_upto (bytes_eq x y)

module _ (m : Meaning) (laws : Laws m) (x : List ℕ) where
  -- how many lawful starts the words lead to x
  abbrev starts_to : List ℕ → ℕ
  starts_to ws = over m.states (λ s. same_as (lead m ws s) x)

  pub bounds : (ws : List ℕ) → Words ws → (o : Ends) → outcome m ws ≡ o → (cond (is_met_in x o) 1 0 * length m.states ≤ starts_to ws) × (starts_to ws ≤ cond (is_met_in x o) 1 0 * length m.states + cond (is_apart o) 1 0 * length m.states)
  bounds ws all (met_in y) e =
      let together = (meets_where_all_end m laws ws all y).0 e in
      let count = over_same m.states (λ s. same_as (lead m ws s) x) (λ s. same_as y x) (λ s h. ap (λ (z : List ℕ). same_as z x) (together s h)) ∙ over_constant m.states (same_as y x) in
      (omega (arith, count), omega (arith, count))
  bounds ws all (apart_at low high) e =
      let most = over_le m.states (λ s. same_as (lead m ws s) x) (λ s. at_most_one (lead m ws s) x) in
      (omega arith, omega (arith, most))

module _ (m : Meaning) (laws : Laws m) (distinct : Distinct m.states) (exchanges : Exchanges m) where
  pub equal_shares : EqualShares m
  equal_shares n x h =
      let size = length m.states in
      let meets : List ℕ → ℕ = λ ws. cond (is_met_in x (outcome m ws)) 1 0 in
      let apart : List ℕ → ℕ = λ ws. cond (is_apart (outcome m ws)) 1 0 in
      let starts : List ℕ → ℕ = λ ws. over m.states (λ s. same_as (lead m ws s) x) in
      let all = lists_over n m.states (λ ws s. same_as (lead m ws s) x) ∙ lists_to m laws.closed distinct exchanges n x h in
      let low = lists_le n (λ ws. meets ws * size) starts (λ ws w. (bounds m laws x ws w (outcome m ws) refl).0) in
      let high = lists_le n starts (λ ws. meets ws * size + apart ws * size) (λ ws w. (bounds m laws x ws w (outcome m ws) refl).1) in
      let met = lists_times n meets size in
      let parted = lists_times n apart size in
      let both = lists_add n (λ ws. meets ws * size) (λ ws. apart ws * size) in
      (omega (arith, low, met, all), omega (arith, high, both, met, parted, all))
