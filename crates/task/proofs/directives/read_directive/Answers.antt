use Rattle.std.proofs.Common.{◌≡◌, ℕ, List, [], ◌∷◌, length, get_or, drop, Ok, sym, ap, ◌∙◌, refl, arith}
use Rattle.std.proofs.lemmas.Slice.Eq.{text_from_reads}
use Rattle.task.specs.Fields.{read_as}
use Rattle.task.specs.Lines.{spins}
use Rattle.task.proofs.directives.read_directive.Goals as goal

eleven : (xs : List ℕ) → length xs ≡ 11 → xs ≡ get_or xs 0 0 ∷ get_or xs 1 0 ∷ get_or xs 2 0 ∷ get_or xs 3 0 ∷ get_or xs 4 0 ∷ get_or xs 5 0 ∷ get_or xs 6 0 ∷ get_or xs 7 0 ∷ get_or xs 8 0 ∷ get_or xs 9 0 ∷ get_or xs 10 0 ∷ []
eleven xs long = text_from_reads xs _ long (refl, (refl, (refl, (refl, (refl, (refl, (refl, (refl, (refl, (refl, (refl, tt)))))))))))

pub returns-in_ok-rows-in-Spins : goal.returns-in_ok-rows-in-Spins
returns-in_ok-rows-in-Spins c =
    let xs = c.in_ok-rows-in-Spins.field-0 in
    let long : length xs ≡ 11 = omega arith in
    rw c.in-Spins.is (ap (λ ts. Ok (spins (get_or xs 0 0) (get_or xs 1 0) ts)) (sym (ap (drop 2) (eleven xs long))) ∙ ap (read_as (λ ns. spins (get_or ns 0 0) (get_or ns 1 0) (drop 2 ns))) c.in_ok-rows-in-Spins.ensures)
