use Rattle.std.proofs.Common.{◌≡◌, ℕ, ◌+◌, ◌<◌, ◌≤◌, Bool, true, false, ltb, List, [], ◌∷◌, ◌++◌, length, get_or, take, vec_items, sym, ap, ◌∙◌, inl, arith}
use Rattle.lattice.specs.Calls.{cell_answer}
use Rattle.lattice.specs.Grid.{Extent, agree, cell_count}
use Rattle.lattice.specs.Faults.{state_refusal}
use Rattle.lattice.specs.declared.fault.StateFault.TheVariants.{Foreign}
use Rattle.lattice.proofs.Extents.{agree_same}
use Rattle.refusal.specs.Refusals.{Refusal, given, provided}
use Rattle.std.proofs.lemmas.List.{take_all, take_more}
use Rattle.refusal.proofs.Provided.{passed, same_given}
use Rattle.session.proofs.print.cell_values.Goals as goal

-- the cell that is answered is the state's
cell_given : (rule state : Extent) (cells : List ℕ) (i v : ℕ) → given v ≡ cell_answer rule state cells i → v ≡ get_or cells i 0
cell_given rule state cells i v e =
    same_given v (get_or cells i 0) (passed (ltb i (cell_count rule)) _ _ v (passed (agree rule state) _ _ v e).1).1

-- one cell more
more : (cells before after : List ℕ) (i v w : ℕ) → i < length cells → after ≡ before ++ w ∷ [] → w ≡ v → v ≡ get_or cells i 0 → before ≡ take i cells → after ≡ take (i + 1) cells
more cells before after i v w within pushed wide value told = let e = take_more cells i 0 within in cc

-- all cells, of a state that is the rule's
all_told : (own : Bool) (c : Refusal) (cells values : List ℕ) (n : ℕ) → own ≡ true → length cells ≤ n → values ≡ take n cells → given values ≡ provided own c (given cells)
all_told true c cells values n so upto told = ap given (told ∙ take_all n cells upto)
all_told false c cells values n so upto told = cc

pub returns : goal.returns
returns g c =
    let rule = c.args.rule.now in
    let state = c.args.state.now in
    let cells = g.K.Kind.cells state in
    let own : agree (g.K.Kind.extent rule) (g.K.Kind.carried state) ≡ true = sym c.owns.ensures ∙ c.if-not-owns.false in
    let long = (g.met.K.Kind.sized rule cells (g.met.K.Kind.lawful rule state (sym (agree_same _ _ own)))).0 in
    inl (all_told _ (state_refusal Foreign) cells (vec_items c.loop-cell.values) c.loop-cell.cell own (omega arith) c.loop-cell.invariant)

pub loop-cell-preserved : goal.loop-cell-preserved
loop-cell-preserved g c =
    let rule = c.args.rule.now in
    let state = c.args.state.now in
    let cells = g.K.Kind.cells state in
    let own : agree (g.K.Kind.extent rule) (g.K.Kind.carried state) ≡ true = sym c.owns.ensures ∙ c.if-not-owns.false in
    let long = (g.met.K.Kind.sized rule cells (g.met.K.Kind.lawful rule state (sym (agree_same _ _ own)))).0 in
    let value = cell_given (g.K.Kind.extent rule) (g.K.Kind.carried state) cells c.loop-cell.cell c.in_ok-value.value c.in_ok-value.ensures in
    more cells (vec_items c.loop-cell.values) (vec_items c.push.new.self) c.loop-cell.cell c.in_ok-value.value c.from.result (omega arith) c.in_ok-push.ensures.items c.from.ensures value c.loop-cell.invariant
