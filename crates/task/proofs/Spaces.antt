-- The words of a line fill it, but for blanks.
use Rattle.std.proofs.Common.{◌≡◌, ℕ, List, [], ◌∷◌, ◌++◌, filter, refl, ap, inl, inr, arith}
use Rattle.std.proofs.lemmas.Bool.{cases_Bool}
use Rattle.std.specs.List.{AllByRecursion}
use Rattle.task.specs.Laws.{Blank, Solid, Parted, Spaced}
use Rattle.task.specs.Text.{blank, pieces, some, words}

-- The text is cut into a first piece, which may be empty, and the words behind it.
pub record Pieced (text p : List ℕ) (ws : List (List ℕ)) : Type 0 where
  pub after : List ℕ
  pub whole : text ≡ p ++ after
  pub solid_piece : AllByRecursion Solid p
  pub parted : Parted after
  pub spaced : Spaced after ws

-- One more blank in front.
blank_more : (b : ℕ) (bs : List ℕ) (ws : List (List ℕ)) → Blank b → Spaced bs ws → Spaced (b ∷ bs) ws
blank_more b bs [] e h = (e, h)
blank_more b bs (w ∷ ws) e h = (b ∷ h.0, h.1, ap (λ t. b ∷ t) h.2, (e, h.3), h.4, h.5, h.6)

-- A first piece that holds something is a word.
spaced_from : (bs p : List ℕ) (ps : List (List ℕ)) → Pieced bs p (filter some ps) → Spaced bs (filter some (p ∷ ps))
spaced_from bs [] ps h = rw h.whole h.spaced
spaced_from bs (b ∷ p) ps h = ([], h.after, h.whole, tt, (omega arith, h.solid_piece), h.parted, h.spaced)

pieced : (bs : List ℕ) → (p : List ℕ) × (ps : List (List ℕ)) × (pieces bs ≡ p ∷ ps) × Pieced bs p (filter some ps)
pieced [] = ([], [], refl, record { after = []; whole = refl; solid_piece = tt; parted = tt; spaced = tt })
pieced (b ∷ bs) =
    let h = pieced bs in
    elim (cases_Bool (blank b)) [
      | inl e ↦ simp e ([], pieces bs, refl, record { after = b ∷ bs; whole = refl; solid_piece = tt; parted = e; spaced = blank_more b bs (words bs) e (rw h.2 (spaced_from bs h.0 h.1 h.3)) })
      | inr e ↦ simp e (b ∷ h.0, h.1, rw h.2, record { after = h.3.after; whole = ap (λ t. b ∷ t) h.3.whole; solid_piece = (e, h.3.solid_piece); parted = h.3.parted; spaced = h.3.spaced })
    ]

pub spaced : (bs : List ℕ) → Spaced bs (words bs)
spaced bs = let h = pieced bs in rw h.2 (spaced_from bs h.0 h.1 h.3)
