-- Under the exchange law the lawful states, each counted once, stay evenly spread: a word more leads to each of them as
-- often as there are words. So as many lists lead from all starts to one state as there are lists.
use Rattle.std.proofs.Common.{◌≡◌, ℕ, zero, suc, ◌*◌, ◌^◌, List, sym, ap, ◌∙◌, mul_comm, pow-suc, mul-one}
use Rattle.lattice.specs.Counts.{Exchanges, same_as, sum_below, words_between}
use Rattle.lattice.specs.Kind.{Closed, Distinct, Lawful, Meaning}
use Rattle.lattice.proofs.Halves.{same_counts, sum_constant, sum_same}
use Rattle.coupling.specs.Lead.{lead}
use Rattle.coupling.specs.Shares.{all_lists, sum_lists}
use Rattle.coupling.proofs.Sums.{listed_once, over, over_over, over_same, over_times, sum_over, sum_times}

module _ (m : Meaning) (closed : Closed m) (distinct : Distinct m.states) (exchanges : Exchanges m) where
  -- every word leads a lawful state to some lawful state
  words_from : (y : List ℕ) → Lawful m y → over m.states (λ s. words_between m y s) ≡ 2 ^ 64
  words_from y h =
      sym (sum_over (2 ^ 64) m.states (λ w s. same_as (m.step w y) s))
      ∙ sum_same (2 ^ 64) _ (λ w. 1) (λ w k. once (m.step w y) (closed w k y h))
      ∙ sum_constant (2 ^ 64) 1
    where
      once : (z : List ℕ) → Lawful m z → over m.states (λ s. same_as z s) ≡ 1
      once z lawful = over_same m.states _ (λ s. same_as z s * 1) (λ s k. sym (mul-one (same_as z s))) ∙ listed_once m.states distinct z (λ s. 1) lawful

  -- by the exchange law as many lead to it
  words_to : (y : List ℕ) → Lawful m y → over m.states (λ s. words_between m s y) ≡ 2 ^ 64
  words_to y h = over_same m.states _ _ (λ s k. exchanges s y k h) ∙ words_from y h

  -- a sum over all lawful states and words, taken after the step
  pub after_a_step : (f : List ℕ → ℕ) → over m.states (λ s. sum_below (2 ^ 64) (λ w. f (m.step w s))) ≡ 2 ^ 64 * over m.states f
  after_a_step f =
      over_same m.states _ _ (λ s h. by_target s h)
      ∙ over_over m.states m.states (λ s y. words_between m s y * f y)
      ∙ over_same m.states _ _ (λ y h. over_times m.states (λ s. words_between m s y) (f y) ∙ ap (λ (n : ℕ). n * f y) (words_to y h) ∙ mul_comm (2 ^ 64) (f y))
      ∙ over_times m.states f (2 ^ 64)
      ∙ mul_comm (over m.states f) (2 ^ 64)
    where
      by_target : (s : List ℕ) → Lawful m s → sum_below (2 ^ 64) (λ w. f (m.step w s)) ≡ over m.states (λ y. words_between m s y * f y)
      by_target s h =
          sum_same (2 ^ 64) _ _ (λ w k. sym (listed_once m.states distinct (m.step w s) f (closed w k s h)))
          ∙ sum_over (2 ^ 64) m.states (λ w y. same_as (m.step w s) y * f y)
          ∙ over_same m.states _ _ (λ y k. sum_times (2 ^ 64) (λ w. same_as (m.step w s) y) (f y))

  -- the lists that lead to x, over all lawful starts, are as many as all lists
  pub lists_to : (n : ℕ) (x : List ℕ) → Lawful m x → over m.states (λ s. sum_lists n (λ ws. same_as (lead m ws s) x)) ≡ all_lists n
  unfolding sum_lists
  lists_to zero x h = over_same m.states _ (λ s. same_as x s * 1) (λ s k. turned s x) ∙ listed_once m.states distinct x (λ s. 1) h
    where
      turned : (s y : List ℕ) → same_as s y ≡ same_as y s * 1
      turned s y = same_counts s y y s sym sym ∙ sym (mul-one (same_as y s))
  lists_to (suc n) x h =
      after_a_step (λ y. sum_lists n (λ ws. same_as (lead m ws y) x))
      ∙ ap (λ (k : ℕ). 2 ^ 64 * k) (lists_to n x h)
      ∙ mul_comm (2 ^ 64) ((2 ^ 64) ^ n)
      ∙ sym (pow-suc (2 ^ 64) n)
