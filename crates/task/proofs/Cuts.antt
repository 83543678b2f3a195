-- One word cut from the front of a text.
use Rattle.std.proofs.Common.{◌≡◌, ℕ, ◌+◌, ◌<◌, Bool, true, false, cond, List, [], ◌∷◌, length, drop, filter, sym, refl, ap, ◌∙◌, inl, inr, one-add, arith}
use Rattle.std.proofs.lemmas.Bool.{cases_Bool}
use Rattle.std.specs.List.{prefix_len, take_while}
use Rattle.task.specs.Text.{blank, solid, past, pieces, some, words, after_word}

module _ (test : ℕ → Bool) where
  -- The leading bytes that pass the test, and what stands behind them.
  pub drop_leading : (bs : List ℕ) → drop (prefix_len test bs) bs ≡ past test bs
  drop_leading [] = refl
  drop_leading (b ∷ bs) = elim (test b) as (λ t. drop (cond t (1 + prefix_len test bs) 0) (b ∷ bs) ≡ cond t (past test bs) (b ∷ bs))
      [ true ↦ rw (one-add, drop_leading bs) | false ↦ refl ]

-- The first piece, with the words of what follows it.
pub step : (bs : List ℕ) → (ps : List (List ℕ)) × (pieces bs ≡ take_while solid bs ∷ ps) × (filter some ps ≡ words (past solid bs))
step [] = ([], refl, refl)
step (b ∷ bs) = elim (cases_Bool (blank b)) [ inl e ↦ simp (e, one-add) (pieces bs, refl, refl) | inr e ↦ let h = step bs in simp (e, one-add) (h.0, rw h.1, h.2) ]

pub words_past : (bs : List ℕ) → words (past blank bs) ≡ words bs
words_past [] = refl
words_past (b ∷ bs) = elim (cases_Bool (blank b)) [ inl e ↦ simp e (words_past bs) | inr e ↦ simp e ]

none_left : (bs : List ℕ) → take_while solid (past blank bs) ≡ [] → past blank bs ≡ []
none_left [] none = refl
none_left (b ∷ bs) none =
    elim (cases_Bool (blank b)) [
      | inl e ↦ simp e (none_left bs (simp e at none))
      | inr e ↦ cc (simp (e, one-add) at none)
    ]

kept : (w : List ℕ) (ps : List (List ℕ)) → 0 < length w → filter some (w ∷ ps) ≡ w ∷ filter some ps
kept [] ps more = absurd (omega arith)
kept (b ∷ w) ps more = refl

-- A text with no word, and one with a word.
pub no_word : (bs : List ℕ) → take_while solid (past blank bs) ≡ [] → (words bs ≡ []) × (words (after_word bs) ≡ [])
no_word bs none = let h = none_left bs none in (sym (words_past bs) ∙ ap words h, ap (λ t. words (past solid t)) h)

pub a_word : (bs : List ℕ) → 0 < length (take_while solid (past blank bs)) → words bs ≡ take_while solid (past blank bs) ∷ words (after_word bs)
a_word bs more =
    let h = step (past blank bs) in
    sym (words_past bs) ∙ ap (filter some) h.1 ∙ kept (take_while solid (past blank bs)) h.0 more ∙ ap (λ ws. take_while solid (past blank bs) ∷ ws) h.2
