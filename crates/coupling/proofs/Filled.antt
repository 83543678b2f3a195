-- Laws of windows that a source can fill: their words have 64 bits, and a larger window has older words in front.
use Rattle.std.proofs.Common.{◌≡◌, ℕ, zero, suc, ◌<◌, ◌≤◌, true, List, [], ◌∷◌, ◌++◌, refl, ap, ap₂, ⊎_elim, arith}
use Rattle.std.proofs.lemmas.Bool.{cases_lt}
use Rattle.std.proofs.lemmas.Bool.Decides.{nat_tests}
use Rattle.sources.specs.Sources.{Reading, Sound, has_place}
use Rattle.coupling.specs.Lead.{Words}
use Rattle.coupling.specs.Windows.{Agree, CanFill, draw_place, window_words}

place_parts : (r : Reading) (place : ℕ) → has_place r place ≡ true → (1 ≤ place) × (place ≤ r.depth)
place_parts r place h = (grind (arith, nat_tests), grind (arith, nat_tests))

-- a source that can fill a window has all its places
has_upto : (r : Reading) (stretch d T t : ℕ) → has_place r (draw_place stretch d T) ≡ true → 1 ≤ t → t ≤ T → has_place r (draw_place stretch d t) ≡ true
has_upto r stretch d T t h some upto = grind (arith, nat_tests)

filled_words : (r : Reading) → Sound r → (stretch d T t : ℕ) → has_place r (draw_place stretch d T) ≡ true → t ≤ T → Words (window_words r stretch d t)
unfolding window_words
filled_words r sound stretch d T zero h upto = tt
filled_words r sound stretch d T (suc t) h upto =
    let p = place_parts r (draw_place stretch d (suc t)) (has_upto r stretch d T (suc t) h (omega arith) upto) in
    (sound (draw_place stretch d (suc t)) p.0 p.1, filled_words r sound stretch d T t h (omega arith))

-- the words of a window that a source can fill have 64 bits
pub window_is_words : (r : Reading) → Sound r → (stretch d T : ℕ) → CanFill r stretch d T → Words (window_words r stretch d T)
window_is_words r sound stretch d T fill = filled_words r sound stretch d T T fill.oldest (omega arith)

-- a larger window has a smaller one's words at its end
pub older_words : (r : Reading) (stretch d T U : ℕ) → T ≤ U → (older : List ℕ) × (window_words r stretch d U ≡ older ++ window_words r stretch d T)
unfolding window_words
older_words r stretch d T zero h = let e : T ≡ 0 = omega arith in ([], rw e refl)
older_words r stretch d T (suc u) h =
    ⊎_elim
    (λ (l : T < suc u). let p = older_words r stretch d T u (omega arith) in (r.word (draw_place stretch d (suc u)) ∷ p.0, ap (λ (ws : List ℕ). r.word (draw_place stretch d (suc u)) ∷ ws) p.1))
    (λ (g : suc u ≤ T). let e : T ≡ suc u = omega arith in ([], rw e refl))
    (cases_lt T (suc u))

-- a window within one that a source can fill
pub fills_smaller : (r : Reading) (stretch d T U : ℕ) → 1 ≤ T → T ≤ U → CanFill r stretch d U → CanFill r stretch d T
fills_smaller r stretch d T U some upto fill = record { some = some; fits = omega (arith, fill.fits); oldest = has_upto r stretch d U T fill.oldest some upto }

agreeing_words : (r q : Reading) → Agree r q → (stretch d T t : ℕ) → has_place r (draw_place stretch d T) ≡ true → has_place q (draw_place stretch d T) ≡ true → t ≤ T → window_words r stretch d t ≡ window_words q stretch d t
unfolding window_words
agreeing_words r q agree stretch d T zero h k upto = refl
agreeing_words r q agree stretch d T (suc t) h k upto =
    ap₂ (λ (w : ℕ) (ws : List ℕ). w ∷ ws)
    (agree (draw_place stretch d (suc t)) (has_upto r stretch d T (suc t) h (omega arith) upto) (has_upto q stretch d T (suc t) k (omega arith) upto))
    (agreeing_words r q agree stretch d T t h k (omega arith))

-- agreeing sources fill a window with the same words
pub same_window : (r q : Reading) → Agree r q → (stretch d T : ℕ) → CanFill r stretch d T → CanFill q stretch d T → window_words r stretch d T ≡ window_words q stretch d T
same_window r q agree stretch d T fill too = agreeing_words r q agree stretch d T T fill.oldest too.oldest (omega arith)
