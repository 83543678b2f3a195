-- Every lawful start ends between the ends of bottom and top.
use Rattle.std.proofs.Common.{◌≡◌, ℕ, List, [], ◌∷◌, ◌++◌, sym, refl, ap, ◌∙◌}
use Rattle.lattice.specs.Kind.{Meaning, Lawful, Closed}
use Rattle.coupling.specs.Ends.{AllEndIn, ApartWhereSomeDiffer, EndsBetween, MeetsWhereAllEnd}
use Rattle.coupling.specs.Lead.{Words, lead, met_in}
use Rattle.coupling.proofs.Laws.{Laws}
use Rattle.coupling.proofs.Outcomes.{apart_ends, different_ends, equal_ends, met_ends}

-- older words come first
pub lead_append : (m : Meaning) (older newer x : List ℕ) → lead m (older ++ newer) x ≡ lead m newer (lead m older x)
lead_append m [] newer x = refl
lead_append m (w ∷ ws) newer x = lead_append m ws newer (m.step w x)

pub lead_lawful : (m : Meaning) → Closed m → (ws : List ℕ) → Words ws → (x : List ℕ) → Lawful m x → Lawful m (lead m ws x)
lead_lawful m closed [] all x h = h
lead_lawful m closed (w ∷ ws) all x h = lead_lawful m closed ws all.1 (m.step w x) (closed w all.0 x h)

module _ (m : Meaning) (laws : Laws m) where
  lead_monotone : (ws : List ℕ) → Words ws → (x y : List ℕ) → Lawful m x → Lawful m y → m.below x y → m.below (lead m ws x) (lead m ws y)
  lead_monotone [] all x y hx hy below = below
  lead_monotone (w ∷ ws) all x y hx hy below =
      lead_monotone ws all.1 (m.step w x) (m.step w y) (laws.closed w all.0 x hx) (laws.closed w all.0 y hy) (laws.monotone w all.0 x y hx hy below)

  pub ends_between : EndsBetween m
  ends_between ws all x h = (
    lead_monotone ws all m.bottom x laws.bounded.bottom_lawful h (laws.bounded.above_bottom x h),
    lead_monotone ws all x m.top h laws.bounded.top_lawful (laws.bounded.below_top x h),
  )

  -- where the two ends are one state, every lawful start ends there
  all_end_together : (ws : List ℕ) → Words ws → (y : List ℕ) → lead m ws m.bottom ≡ y → lead m ws m.top ≡ y → AllEndIn m ws y
  all_end_together ws all y low high x h =
      let between = ends_between ws all x h in
      let bottom = lead_lawful m laws.closed ws all m.bottom laws.bounded.bottom_lawful in
      laws.ordered.antisymmetric (lead m ws x) y (lead_lawful m laws.closed ws all x h) (rw low at bottom) (rw high at between.1) (rw low at between.0)

  pub meets_where_all_end : MeetsWhereAllEnd m
  meets_where_all_end ws all y = (
    λ met. let ends = met_ends (lead m ws m.bottom) (lead m ws m.top) y met in all_end_together ws all y ends.0 ends.1,
    λ together.
        let low = together m.bottom laws.bounded.bottom_lawful in
        let high = together m.top laws.bounded.top_lawful in
        equal_ends (lead m ws m.bottom) (lead m ws m.top) (low ∙ sym high) ∙ ap met_in low,
  )

  pub apart_where_some_differ : ApartWhereSomeDiffer m
  apart_where_some_differ ws all = (
    λ low high apart. (m.bottom, m.top, laws.bounded.bottom_lawful, laws.bounded.top_lawful, (apart_ends (lead m ws m.bottom) (lead m ws m.top) low high apart).0),
    λ some.
        different_ends (lead m ws m.bottom) (lead m ws m.top)
        (λ same.
        let together = all_end_together ws all (lead m ws m.top) same refl in
        some.4 (together some.0 some.2 ∙ sym (together some.1 some.3))),
  )
