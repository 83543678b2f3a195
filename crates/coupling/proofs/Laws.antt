-- The laws of one rule of a kind that exact sampling rests on.
use borrow.Fn.World.{World}
use denote.RattleType.{RattleType}
use mir.Syntax.{Dict}
use Rattle.lattice.specs.Kind.{Bounded, Closed, Meaning, Monotone, Ordered}
use Rattle.lattice.specs.declared.kind.Kind.{Ghosts}
use Rattle.lattice.specs.contracts.kind.Kind.TheBound.{Met}

pub record Laws (m : Meaning) : Type 0 where
  pub ordered : Ordered m
  pub bounded : Bounded m
  pub closed : Closed m
  pub monotone : Monotone m

-- a kind in generic code has them for each of its rules: `w` is `g.world`, and the bound is `g.met.K.Kind`
pub laws_of : (w : World) {K S : RattleType} {kind : Ghosts K.Denot S.Denot} {dict : Dict} → Met w.𝓛 w.𝓜 w.𝓡 w.𝓡.env K S kind dict → (rule : K.Denot) → Laws (kind.meaning rule)
laws_of w met rule = record { ordered = met.ordered rule; bounded = met.bounded rule; closed = met.closed rule; monotone = met.monotone rule }
