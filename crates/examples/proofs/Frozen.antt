-- Two spins under the table of `frozen_spins` never leave all down or all up.
use Rattle.std.proofs.Common.{◌≡◌, ℕ, zero, suc, ◌-◌, ◌*◌, ◌/◌, ◌^◌, ◌<◌, Bool, true, slice_index, List, [], ◌∷◌, set, refl, ap, ◌∙◌, ap₂, ⊎_elim, arith}
use Rattle.std.proofs.lemmas.Nat.{div_below, mod_below, shr_below}
use Rattle.std.proofs.lemmas.Bool.{agree_below_at, le-ltb, leb-true, lt-ltb}
use Rattle.std.proofs.Math.Dec.{leb}
use Rattle.coupling.specs.Lead.{Words, ends_of, lead}
use Rattle.lattice.specs.Grid.{Extent}
use Rattle.lattice.specs.Kind.{Meaning}
use Rattle.lattice.specs.Words.{level, site}
use Rattle.refusal.specs.Refusals.{Refusal}
use Rattle.spins.specs.Faults.{FaultAt}
use Rattle.spins.specs.Spin.{new_spin, spins_meaning}
use Rattle.examples.specs.Frozen.{AlwaysApart}

abbrev pub table : List ℕ
table = 0 ∷ 0 ∷ 0 ∷ 0 ∷ 2 ^ 31 ∷ 2 ^ 32 ∷ 2 ^ 32 ∷ 2 ^ 32 ∷ 2 ^ 32 ∷ []

abbrev pub pair : Extent
pair = record { rows = 1; columns = 2; largest = 1 }

-- whether the threshold at an index is at most 2^32, and whether it is not below the one before
abbrev pub small : ℕ → Bool
small i = leb (slice_index table i) (2 ^ 32)

abbrev pub rising : ℕ → Bool
rising i = leb (slice_index table (i - 1)) (slice_index table i)

-- no index of the table is at fault
pub faultless : (i : ℕ) (c : Refusal) → i < 9 → FaultAt table i c → ⊥
faultless i c h f =
    let most = leb-true (slice_index table i) (2 ^ 32) (agree_below_at small (λ _. true) 9 i refl h) in
    let least = leb-true (slice_index table (i - 1)) (slice_index table i) (agree_below_at rising (λ _. true) 9 i refl h) in
    ⊎_elim (λ p. omega (arith, most, p.0)) (λ p. omega (arith, least, p.2)) f

site_below_two : (w : ℕ) → w < 2 ^ 64 → site 2 w < 2
site_below_two w h =
    let high = shr_below w 32 32 h in
    div_below (w / 2 ^ 32 * 2) (2 ^ 32) 2 (omega arith) (omega (arith, high))

down_stays : (i l : ℕ) → i < 2 → set (0 ∷ 0 ∷ []) i (new_spin pair table (0 ∷ 0 ∷ []) i l) ≡ 0 ∷ 0 ∷ []
down_stays zero l h = rw (le-ltb l 0 (omega arith)) refl
down_stays (suc zero) l h = rw (le-ltb l 0 (omega arith)) refl
down_stays (suc (suc i)) l h = absurd (omega arith)

up_stays : (i l : ℕ) → i < 2 → l < 2 ^ 32 → set (1 ∷ 1 ∷ []) i (new_spin pair table (1 ∷ 1 ∷ []) i l) ≡ 1 ∷ 1 ∷ []
up_stays zero l h few = rw (lt-ltb l (2 ^ 32) few) refl
up_stays (suc zero) l h few = rw (lt-ltb l (2 ^ 32) few) refl
up_stays (suc (suc i)) l h few = absurd (omega arith)

-- a state that no word moves is where each list of words leads from it
leads_nowhere : (m : Meaning) (x : List ℕ) → ((w : ℕ) → w < 2 ^ 64 → m.step w x ≡ x) → (ws : List ℕ) → Words ws → lead m ws x ≡ x
leads_nowhere m x same [] all = refl
leads_nowhere m x same (w ∷ ws) all = ap (lead m ws) (same w all.0) ∙ leads_nowhere m x same ws all.1

pub always_apart : AlwaysApart (spins_meaning pair table)
always_apart ws all =
    let frozen = leads_nowhere (spins_meaning pair table) in
    ap₂ ends_of
    (frozen (0 ∷ 0 ∷ []) (λ w h. down_stays (site 2 w) (level w) (site_below_two w h)) ws all)
    (frozen (1 ∷ 1 ∷ []) (λ w h. up_stays (site 2 w) (level w) (site_below_two w h) (mod_below w (2 ^ 32) (omega arith))) ws all)
