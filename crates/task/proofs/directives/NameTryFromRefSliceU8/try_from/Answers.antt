use Rattle.std.proofs.Common.{◌≡◌, ℕ, true, false, cond, List, [], ◌∷◌, map, Some, None, Option, refl, ap, ◌∙◌, Bor, rules}
use Rattle.std.proofs.lemmas.Iterator.{YieldsList-from_slice}
use Rattle.std.proofs.lemmas.Iterator.Search.{find_from_yields_List}
use Rattle.std.specs.Option.{ok_or, option_map}
use Rattle.std.specs.List.{find}
use Rattle.std.specs.Str.{bytes_eq}
use Rattle.task.specs.Lines.{name_of}
use Rattle.task.specs.declared.directives.Name.{Name}
use Rattle.task.specs.declared.line.Expected.{Expected}
use Rattle.task.proofs.directives.NameTryFromRefSliceU8.try_from.Goals as goal

-- An entry of the program's table of names, and what it stands for.
abbrev Entry : Type 0
Entry = Bor (List ℕ) × Name

abbrev meant : Entry → List ℕ × Name
meant e = (e.0.now, e.1)

-- The name of what is found among the entries.
name_found : (es : List Entry) (w : List ℕ) → option_map (λ e. e.1) (find (λ e. bytes_eq e.0.now w) es) ≡ option_map (λ n. n.1) (find (λ n. bytes_eq n.0 w) (map meant es))
name_found [] w = refl
name_found (e ∷ es) w = elim (bytes_eq e.0.now w) as (λ t. option_map (λ d. d.1) (cond t (Some e) (find (λ d. bytes_eq d.0.now w) es)) ≡ option_map (λ n. n.1) (cond t (Some (meant e)) (find (λ n. bytes_eq n.0 w) (map meant es))))
    [ true ↦ refl | false ↦ name_found es w ]

name_behind : (r : Option (Bor Entry)) → option_map (λ e. e.now.1) r ≡ option_map (λ e. e.1) (option_map (λ e. e.now) r)
name_behind None = refl
name_behind (Some e) = refl

-- The same of a found entry of the table es, which an iterator goes over.
name_is : (rest es : List Entry) (w : List ℕ) (r : Option (Bor Entry)) → rest ≡ es → option_map (λ e. e.now) r ≡ find (λ e. bytes_eq e.0.now w) es → option_map (λ e. e.now.1) r ≡ option_map (λ n. n.1) (find (λ n. bytes_eq n.0 w) (map meant es))
name_is rest es w r from found = name_behind r ∙ ap (option_map (λ e. e.1)) found ∙ name_found es w

pub returns : goal.returns
unfolding name_of
returns c =
    let w = c.args.word.now in
    let found = find_from_yields_List (λ e. bytes_eq e.0.now w) _ _ _ c.find-entry.ensures.ran (YieldsList-from_slice _ c.iter.ensures.rest) (λ x b q k. search rules) in
    let name : c.map.result ≡ option_map (λ e. e.now.1) c.find-entry.result = search rules in
    c.ok_or.ensures.value ∙ ap (λ o. ok_or o Expected.Directive) (name ∙ name_is _ _ w c.find-entry.result c.iter.ensures.rest found)
