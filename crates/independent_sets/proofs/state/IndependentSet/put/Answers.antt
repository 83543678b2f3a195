use Rattle.std.proofs.Common.{◌≡◌, ℕ, ◌<◌, Bool, true, false, length, set, sym, refl, ◌∙◌, ap₂, arith, rules}
use mir.Val.{bool_byte}
use Rattle.lattice.specs.Grid.{cell_count}
use Rattle.lattice.proofs.Cells.{set_upto}
use Rattle.independent_sets.specs.Independent.{independent}
use Rattle.independent_sets.specs.Sets.{state_cells, state_extent}
use Rattle.independent_sets.specs.Apart.{apart_from, from_apart, set_apart}
use Rattle.independent_sets.proofs.state.IndependentSet.put.Goals as goal

byte_set : (t : Bool) (v : ℕ) → v ≡ bool_byte t → 0 < v → t ≡ true
byte_set true v same some = refl
byte_set false v same some = absurd (omega arith)

pub invariant_of-self : goal.invariant_of-self
invariant_of-self c =
    let s = c.args.self.now in
    let e = state_extent s in
    let x = state_cells s in
    let i = c.args.cell in
    let v = c.from.result in
    let long : length x ≡ cell_count e = sym s.grid.cells.ok.0 ∙ s.grid.sized in
    let apart = set_apart e x i v long (apart_from e x long s.apart) (λ some. c.requires (byte_set c.args.occupied v c.from.ensures some)) in record {
      bits = λ k. rw c.put.ensures.writes (set_upto x i v 1 s.bits (search rules) k);
      apart = ap₂ independent c.put.ensures.keeps c.put.ensures.writes ∙ from_apart e (set x i v) apart;
    }
