use Rattle.std.proofs.Common.{◌≡◌, ℕ, ◌<◌, Bool, cond, get_or, sym, ap, ◌∙◌, ap₂, rules}
use Rattle.std.proofs.lemmas.List.FromFn.{fill_by_all}
use Rattle.lattice.specs.Grid.{Extent, cell_count}
use Rattle.lattice.specs.Grids.{grid_cells, grid_extent}
use Rattle.lattice.specs.declared.grid.Grid.{Grid}
use Rattle.independent_sets.specs.Checkerboards.{coloured, coloured_apart, coloured_bits}
use Rattle.independent_sets.specs.Independent.{independent, white}
use Rattle.independent_sets.proofs.state.IndependentSet.fill_colour.Goals as goal

-- a grid on which each cell was written
written : (g : Grid) (e : Extent) (light : Bool) → grid_extent g ≡ e → ((k : ℕ) → k < cell_count e → get_or (grid_cells g) k 0 ≡ cond (white e k) (cond light 1 0) (cond light 0 1)) → grid_cells g ≡ coloured e light
written g e light keeps = fill_by_all (λ k. cond (white e k) (cond light 1 0) (cond light 0 1)) (grid_cells g) (cell_count e) 0 (sym g.cells.ok.0 ∙ g.sized ∙ ap cell_count keeps)

pub invariant_of-self : goal.invariant_of-self
invariant_of-self c =
    let e = grid_extent c.args.self.now.grid in
    let cells = written c.fill_with.new.self e c.args.light c.fill_with.ensures.keeps (λ k h. let at = c.fill_with.ensures.writes k h in search rules) in
    record { bits = λ i. rw cells (coloured_bits e c.args.light i); apart = ap₂ independent c.fill_with.ensures.keeps cells ∙ coloured_apart e c.args.light }

pub returns-clause-writes : goal.returns-clause-writes
returns-clause-writes c = written c.fill_with.new.self (grid_extent c.args.self.now.grid) c.args.light c.fill_with.ensures.keeps (λ k h. let at = c.fill_with.ensures.writes k h in search rules)
