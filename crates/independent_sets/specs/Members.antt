-- The members of a list of cells, and what a test of them all tells of each.
use Rattle.std.specs.Prelude.{◌≡◌, ℕ, zero, suc, ◌+◌, ◌<◌, ◌≤◌, Bool, true, false, List, [], ◌∷◌, refl}
use Rattle.std.proofs.Common.{inl, inr, ⊎_elim, sym, ap, ◌∙◌, arith}
use Rattle.std.proofs.lemmas.Bool.{and_cases, and_from, and_parts, cases_eq, false≢true}
use Rattle.std.specs.List.{range_with_len, list_all}
use Rattle.lattice.specs.Kind.{Holds}

pub counted : (a n j : ℕ) → a ≤ j → j < a + n → Holds (range_with_len a n) j
counted a zero j low high = absurd (omega arith)
counted a (suc n) j low high =
    ⊎_elim inl (λ (d : j ≡ a → ⊥). inr (counted (a + 1) n j (omega arith) (omega arith))) (cases_eq j a)

module _ (test : ℕ → Bool) where
  pub pass_at : (cells : List ℕ) (j : ℕ) → list_all test cells ≡ true → Holds cells j → test j ≡ true
  pass_at [] j t h = absurd h
  pass_at (i ∷ cells) j t (inl e) = ap test e ∙ (and_parts (test i) (list_all test cells) t).0
  pass_at (i ∷ cells) j t (inr h) = pass_at cells j (and_parts (test i) (list_all test cells) t).1 h

  pub pass_from : (cells : List ℕ) → ((j : ℕ) → Holds cells j → test j ≡ true) → list_all test cells ≡ true
  pass_from [] each = refl
  pass_from (i ∷ cells) each = and_from (test i) (list_all test cells) (each i (inl refl)) (pass_from cells (λ j h. each j (inr h)))

  pub fail_at : (cells : List ℕ) → list_all test cells ≡ false → (j : ℕ) × Holds cells j × (test j ≡ false)
  fail_at [] f = absurd (false≢true (sym f))
  fail_at (i ∷ cells) f =
      ⊎_elim
      (λ (k : test i ≡ false). (i, inl refl, k))
      (λ (k : list_all test cells ≡ false). let p = fail_at cells k in (p.0, inr p.1, p.2))
      (and_cases (test i) (list_all test cells) f)
