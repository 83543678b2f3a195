-- A number read by `try_fold`, one digit after another.
use Rattle.std.proofs.Common.{◌≡◌, ℕ, ◌+◌, List, [], ◌∷◌, ◌++◌, map, length, drop, Some, None, Option, refl, sym, ap, ◌∙◌, append-nil}
use Rattle.std.proofs.lemmas.List.{drop_more, take-append-drop}
use Rattle.std.proofs.lemmas.Iterator.{YieldsList}
use Rattle.std.proofs.lemmas.Iterator.Consumers.{YieldsList-so_far, YieldsList-turn, YieldsList-end}
use Rattle.std.specs.Fn.{Called}
use Rattle.std.specs.Iterator.{YieldsThen, TryFoldTurn}
use Rattle.std.specs.declared.ops.ControlFlow.{ControlFlow}
use Rattle.std.specs.declared.ops.ControlFlow.TheVariants.{Continue}
use Rattle.std.specs.List.{FoldsTo}
use Rattle.std.specs.Option.{MatchOption}
use Rattle.task.specs.Text.{longer}
use Rattle.task.proofs.Places.{after, after_none}
use denote.Param.Members.{Mut}

module _ {A F E : Type 0} (v : A → ℕ) (g : Mut F (ℕ × (A × Unit {0})) (Option ℕ)) (branches : Option ℕ → ControlFlow E ℕ → Type 0)
    (told : (p : F) (n : ℕ) (x : A) (o : Option ℕ) (q : F) → Called g p (n, (x, tt)) o q → o ≡ longer n (v x)) (goes : (o : Option ℕ) (m : ℕ) → branches o (Continue m) → o ≡ Some m) where
  turns : (xs : List A) (p q : F × ℕ) (ys : List ℕ) → FoldsTo (TryFoldTurn g branches) p xs q → after (Some p.1) (map v xs ++ ys) ≡ after (Some q.1) ys
  turns [] p q ys e = ap (λ (s : F × ℕ). after (Some s.1) ys) e
  turns (x ∷ xs) p q ys (j, (o, c, k), more) = ap (λ o. after o (map v xs ++ ys)) (sym (told p.0 p.1 x o j.0 c) ∙ goes o j.1 k) ∙ turns xs j q ys more

  pub try_folded : {S : Type 0} {steps : S → Option A → S → Type 0} {s : S} {w : List ℕ} (f : F) (n : ℕ) (u : S) (r : Option ℕ)
      → (xs : List A) × (o : Option A) × (f' : F) × (a : ℕ) × YieldsThen steps s xs o u × FoldsTo (TryFoldTurn g branches) (f, n) xs (f', a)
      × MatchOption o (r ≡ Some a) (λ x. (b : Option ℕ) × (h : F) × (e : E) × Called g f' (a, (x, tt)) b h × (b ≡ None) × (r ≡ None))
      → YieldsList steps v s w → r ≡ after (Some n) w
  try_folded {w = w} f n u r (xs, None, j, a, (t, y, last), folds, e) road =
      let whole = YieldsList-end road xs t y None u refl last in
      e ∙ sym (turns xs (f, n) (j, a) [] folds) ∙ ap (after (Some n)) (append-nil (map v xs) ∙ whole.0)
  try_folded {w = w} f n u r (xs, Some x, j, a, (t, y, next), folds, (b, h, e, call, broke, none)) road =
      let front = YieldsList-so_far road xs t y in
      let here = YieldsList-turn road xs t y (Some x) u x refl next in
      let i = length xs in
      let rest = drop (i + 1) w in
      let split : w ≡ map v xs ++ (v x ∷ rest) = sym (take-append-drop i w) ∙ ap (λ ys. ys ++ drop i w) (sym front) ∙ ap (λ ys. map v xs ++ ys) (drop_more w i (v x) here.0 ∙ ap (λ d. d ∷ rest) (sym here.1)) in
      let stop : longer a (v x) ≡ None = sym (told j a x b h call) ∙ broke in
      none ∙ sym (after_none rest) ∙ ap (λ o. after o rest) (sym stop) ∙ sym (turns xs (f, n) (j, a) (v x ∷ rest) folds) ∙ ap (after (Some n)) (sym split)
