use Rattle.std.proofs.Common.{◌≡◌, ◌+◌, ◌≤◌}
use Rattle.spins.specs.Spin.{holding}
use Rattle.spins.specs.Spins.{spins_extent, spin_cells}
use Rattle.lattice.proofs.Neighbours.{seen}
use Rattle.spins.proofs.rule.Spins.threshold_index.Given as goal

abbrev pub invariant-loop-shift : goal.invariant-loop-shift
invariant-loop-shift l =
    let up = holding (spin_cells l.state) 1 (seen (spins_extent l.self) l.site l.shift-index) in
    let down = holding (spin_cells l.state) 0 (seen (spins_extent l.self) l.site l.shift-index) in
    (l.index + down ≡ 4 + up) × (up ≤ l.shift-index) × (down ≤ l.shift-index)
