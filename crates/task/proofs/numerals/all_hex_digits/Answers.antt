use Rattle.std.proofs.Common.{◌≡◌, ℕ, zero, suc, ◌+◌, ◌*◌, ◌/◌, Bool, true, false, ◌&&◌, List, length, take, drop, refl, sym, ap, ap₂, ◌∙◌, arith, rules}
use Rattle.std.proofs.lemmas.Iterator.{YieldsList-from_slice}
use Rattle.std.proofs.lemmas.Iterator.Search.{all_from_yields_List}
use Rattle.std.proofs.lemmas.List.{drop-drop, take-append-drop}
use Rattle.std.proofs.lemmas.List.Folds.{list_all-append}
use Rattle.std.specs.Char.{is_ascii_hexdigit}
use Rattle.std.specs.List.{list_all}
use Rattle.std.specs.Simd.{first_chunks}
use Rattle.task.proofs.numerals.all_hex_digits.Goals as goal

regrouped : (a b c : Bool) → (a && (b && c)) ≡ ((a && b) && c)
regrouped true b c = refl
regrouped false b c = refl

-- a test of all is one of the blocks and of what is behind them
by_blocks : (p : ℕ → Bool) (n k : ℕ) (xs : List ℕ) → list_all p xs ≡ (list_all (list_all p) (first_chunks n k xs) && list_all p (drop (n * k) xs))
by_blocks p n zero xs = let e : n * 0 ≡ 0 = omega arith in rw e refl
by_blocks p n (suc k) xs =
    let e : n + n * k ≡ n * suc k = omega arith in
    ap (list_all p) (sym (take-append-drop n xs)) ∙ list_all-append p (take n xs) (drop n xs)
    ∙ ap (λ (b : Bool). list_all p (take n xs) && b) (by_blocks p n k (drop n xs))
    ∙ regrouped (list_all p (take n xs)) (list_all (list_all p) (first_chunks n k (drop n xs))) (list_all p (drop (n * k) (drop n xs)))
    ∙ ap (λ (ys : List ℕ). (list_all p (take n xs) && list_all (list_all p) (first_chunks n k (drop n xs))) && list_all p ys) (drop-drop (n * k) n xs ∙ ap (λ (m : ℕ). drop m xs) e)

pub returns-then-all : goal.returns-then-all
returns-then-all c =
    let w = c.args.bytes.now in
    let k = length w / 64 in
    let front = all_from_yields_List (list_all is_ascii_hexdigit) _ _ c.all.result c.all.ensures.ran (YieldsList-from_slice _ c.iter.ensures.rest) (λ x b q i. search rules) ∙ ap (list_all (list_all is_ascii_hexdigit)) c.as_chunks.ensures.front in
    let place : k * 64 ≡ 64 * k = omega arith in
    let behind = c.are_hex_digits.ensures ∙ ap (list_all is_ascii_hexdigit) (c.as_chunks.ensures.back ∙ ap (λ (m : ℕ). drop m w) place) in
    sym (by_blocks is_ascii_hexdigit 64 k w ∙ ap₂ (λ (a b : Bool). a && b) (sym front ∙ c.if-all.true) (sym behind))

pub returns-else-all : goal.returns-else-all
returns-else-all c =
    let w = c.args.bytes.now in
    let k = length w / 64 in
    let front = all_from_yields_List (list_all is_ascii_hexdigit) _ _ c.all.result c.all.ensures.ran (YieldsList-from_slice _ c.iter.ensures.rest) (λ x b q i. search rules) ∙ ap (list_all (list_all is_ascii_hexdigit)) c.as_chunks.ensures.front in
    c.if-all.false ∙ sym (by_blocks is_ascii_hexdigit 64 k w ∙ ap (λ (a : Bool). a && list_all is_ascii_hexdigit (drop (64 * k) w)) (sym front ∙ c.if-all.false))
