-- What two states mean that are lent.
use Rattle.std.specs.Prelude.{◌≡◌}
use Rattle.lattice.specs.declared.kind.Kind as kind
use Rattle.batch.specs.Ends.{Two, two}
use Rattle.batch.specs.declared.ends.EndsMut as declared

-- The two states behind the references.
abbrev pub ends_of : {K State : Type 0} → kind.Ghosts K State → declared.EndsMut K State → Two
ends_of k x = two (k.carried x.low.now) (k.carried x.high.now) (k.cells x.low.now) (k.cells x.high.now)

-- Both references are those of before, so that what is behind them is what the caller's states are once they are given
-- back.
abbrev pub SameEnds : {K State : Type 0} → (before after : declared.EndsMut K State) → Type 0
SameEnds x y = (y.low.ghost_name ≡ x.low.ghost_name) × (y.high.ghost_name ≡ x.high.ghost_name)
