-- The number of each refusal of a batch or a draw, with the values that come with it.
use Rattle.std.specs.Prelude.{ℕ, [], ◌∷◌}
use Rattle.lattice.specs.Faults.{state_refusal}
use Rattle.refusal.specs.Refusals.{Refusal, numbered, row}
use Rattle.batch.specs.declared.fault.Fault.{Fault}
use Rattle.batch.specs.declared.fault.Unfilled.{Unfilled}
use Rattle.batch.specs.declared.fault.Fault.TheVariants.{Full, State, Window, Tried, Source}

abbrev pub stretch_refusal : Refusal
stretch_refusal = numbered 21 []

abbrev pub full_refusal : Refusal
full_refusal = numbered 22 []

abbrev pub window_refusal : Refusal
window_refusal = numbered 23 []

abbrev pub tried_refusal : Refusal
tried_refusal = numbered 24 []

-- The source's own refusal, behind the draw's number and the window.
abbrev pub unfilled_refusal : (number window : ℕ) → Refusal → Refusal
unfilled_refusal number window cause = numbered 25 (number ∷ window ∷ row cause)

abbrev pub unfilled_cause : {F : Type 0} → (F → Refusal) → Unfilled F → Refusal
unfilled_cause why u = unfilled_refusal u.number u.window (why u.cause)

abbrev pub fault_refusal : {F : Type 0} → (F → Refusal) → Fault F → Refusal
fault_refusal why Full = full_refusal
fault_refusal why (State e) = state_refusal e
fault_refusal why Window = window_refusal
fault_refusal why Tried = tried_refusal
fault_refusal why (Source u) = unfilled_cause why u
