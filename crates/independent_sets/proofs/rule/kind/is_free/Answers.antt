use Rattle.std.proofs.Common.{◌≡◌, ℕ, get_or, sym, arith, rules}
use Rattle.lattice.proofs.Neighbours.{seen}
use Rattle.lattice.specs.Kind.{Holds}
use Rattle.lattice.specs.Shapes.{extent_of}
use Rattle.independent_sets.specs.Apart.{free_from}
use Rattle.independent_sets.specs.Beside.{seen_none, seen_some}
use Rattle.independent_sets.proofs.rule.kind.is_free.Goals as goal
use Rattle.independent_sets.proofs.rule.kind.is_free.Goals.{in_default-via-in-None-1, in_default-via-in-Some+else-unwrap_or-ne0}

pub loop-shift-preserved : goal.loop-shift-preserved
loop-shift-preserved c =
    let e = extent_of c.args.shape.now in
    let x = c.args.cells.now in
    let n = c.loop-shift.shift-index in
    let few = c.loop-shift-test.true in
    elim c.in_default.branch [
      | in_default-via-in-None-1 w ↦ seen_none (λ j. get_or x j 0 ≡ 0) e c.args.cell n few c.loop-shift.invariant (search rules)
      | in_default-via-in-Some+else-unwrap_or-ne0 w ↦ seen_some (λ j. get_or x j 0 ≡ 0) e c.args.cell n few c.loop-shift.invariant w.in-Some.neighbour (search rules) (search rules)
    ]

pub returns : goal.returns
returns c =
    let e = extent_of c.args.shape.now in
    let x = c.args.cells.now in
    let all : c.loop-shift.shift-index ≡ 4 = omega (arith, c.loop-shift-test.false, c.loop-shift.auto.shift-index-end) in
    let empty : (j : ℕ) → Holds (seen e c.args.cell 4) j → get_or x j 0 ≡ 0 = rw all at c.loop-shift.invariant in
    sym (free_from e x c.args.cell empty)
