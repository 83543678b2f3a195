use Rattle.std.proofs.Common.{◌≡◌, ℕ, Bool, true, false, ◌&&◌, List, [], ◌∷◌, refl, ◌∙◌, rules}
use Rattle.std.proofs.lemmas.Iterator.{YieldsList-from_slice}
use Rattle.std.proofs.lemmas.Iterator.Consumers.{fold_from_yields_List}
use Rattle.std.specs.Char.{is_ascii_hexdigit}
use Rattle.std.specs.List.{fold, list_all}
use Rattle.task.proofs.numerals.are_hex_digits.Goals as goal

-- a test of each, kept with what was found before
kept : (t : Bool) (xs : List ℕ) → fold (λ whole x. whole && is_ascii_hexdigit x) t xs ≡ (t && list_all is_ascii_hexdigit xs)
kept true [] = refl
kept false [] = refl
kept true (x ∷ xs) = kept (is_ascii_hexdigit x) xs
kept false (x ∷ xs) = kept false xs

pub returns : goal.returns
returns c =
    fold_from_yields_List _ (λ whole x. whole && is_ascii_hexdigit x) true c.fold.result c.fold.ensures.ran (YieldsList-from_slice c.args.bytes.now c.iter.ensures.rest) (λ whole x b q k. search rules)
    ∙ kept true c.args.bytes.now
