-- Extents that agree are the same.
use Rattle.std.proofs.Common.{◌≡◌, true, ◌&&◌, eqb, ap}
use Rattle.std.proofs.lemmas.Bool.{and_parts, and_from, eqb-true, eq-eqb}
use Rattle.lattice.specs.Grid.{Extent, agree}

pub agree_same : (e f : Extent) → agree e f ≡ true → e ≡ f
agree_same e f t =
    let outer = and_parts (eqb e.rows f.rows && eqb e.columns f.columns) (eqb e.largest f.largest) t in
    let inner = and_parts (eqb e.rows f.rows) (eqb e.columns f.columns) outer.0 in
    let rows = eqb-true e.rows f.rows inner.0 in
    let columns = eqb-true e.columns f.columns inner.1 in
    let largest = eqb-true e.largest f.largest outer.1 in
    λ i. record { rows = rows i; columns = columns i; largest = largest i }

pub same_agree : (e f : Extent) → e ≡ f → agree e f ≡ true
same_agree e f p =
    and_from _ _
    (and_from _ _ (eq-eqb e.rows f.rows (ap (λ (x : Extent). x.rows) p)) (eq-eqb e.columns f.columns (ap (λ (x : Extent). x.columns) p)))
    (eq-eqb e.largest f.largest (ap (λ (x : Extent). x.largest) p))
