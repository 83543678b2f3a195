-- What the ends of two runs say, and the other way round.
use Rattle.std.proofs.Common.{◌≡◌, true, false, List, ℕ, refl, ⊎_elim}
use Rattle.std.proofs.lemmas.Slice.Eq.{bytes_eq-Decides}
use Rattle.std.proofs.lemmas.Bool.{both_ways, cases_Bool, not-true}
use Rattle.std.proofs.lemmas.Bool.Decides.{Decides-not}
use Rattle.std.specs.Str.{bytes_eq}
use Rattle.coupling.specs.Lead.{met_in, apart_at, ends_of}

module _ (low high : List ℕ) where
  pub unequal : (low ≡ high → ⊥) → bytes_eq low high ≡ false
  unequal differ = not-true (bytes_eq low high) ((Decides-not (bytes_eq low high) (bytes_eq-Decides low high)).1 differ)

  pub equal_ends : low ≡ high → ends_of low high ≡ met_in low
  equal_ends e = rw ((bytes_eq-Decides low high).1 e) refl

  pub different_ends : (low ≡ high → ⊥) → ends_of low high ≡ apart_at low high
  different_ends differ = rw (unequal differ) refl

  pub met_ends : (y : List ℕ) → ends_of low high ≡ met_in y → (low ≡ y) × (high ≡ y)
  met_ends y e =
      ⊎_elim
      (λ (t : bytes_eq low high ≡ true).
      let same = (bytes_eq-Decides low high).0 t in
      let met : met_in low ≡ met_in y = rw t at e in
      (cc, cc))
      (λ (f : bytes_eq low high ≡ false). let apart : apart_at low high ≡ met_in y = rw f at e in cc)
      (cases_Bool (bytes_eq low high))

  pub apart_ends : (a b : List ℕ) → ends_of low high ≡ apart_at a b → (low ≡ high → ⊥) × (low ≡ a) × (high ≡ b)
  apart_ends a b e =
      ⊎_elim
      (λ (t : bytes_eq low high ≡ true). let met : met_in low ≡ apart_at a b = rw t at e in cc)
      (λ (f : bytes_eq low high ≡ false).
      let apart : apart_at low high ≡ apart_at a b = rw f at e in
      (λ same. both_ways (bytes_eq low high) f ((bytes_eq-Decides low high).1 same), cc, cc))
      (cases_Bool (bytes_eq low high))
