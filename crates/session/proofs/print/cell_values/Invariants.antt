use Rattle.std.proofs.Common.{◌≡◌, take, vec_items}
use Rattle.session.proofs.print.cell_values.Given as goal

abbrev pub invariant-loop-cell : goal.invariant-loop-cell
invariant-loop-cell g l = vec_items l.values ≡ take l.cell (g.K.Kind.cells l.state)
