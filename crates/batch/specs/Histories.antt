-- Histories of a batch: requests one after another, each carried out on what the one before left, with one rule and one
-- source.
use Rattle.std.specs.Prelude.{◌≡◌, ℕ, Bool, true, false, List, [], ◌∷◌}
use Rattle.refusal.specs.Refusals.{given}
use Rattle.batch.specs.Ends.{Two}
use Rattle.batch.specs.Machine.{Machine, new_answer}
use Rattle.batch.specs.Requests.{Carries, Said, Response, said_apart, said_met}
use Rattle.batch.specs.Tries.{Setting}
use Rattle.batch.specs.declared.stage.Request.{Request}

-- A request, the two states that it was handed, and what it answered and left.
pub record Event : Type 0 where
  pub request : Request
  pub states : Two
  pub response : Response

abbrev pub event : Request → Two → Response → Event
event request states response = record { request = request; states = states; response = response }

-- The events, the last one first, lead from a new batch to the machine.
abbrev pub History : Setting → List Event → Machine → Type 0
History s [] m = (stretch : ℕ) × (new_answer stretch ≡ given m)
History s (e ∷ es) m = (before : Machine) × History s es before × Carries s e.states before e.request e.response × (m ≡ e.response.machine)

-- Whether an answer is that of an accepted try or run.
abbrev pub is_tried : Said → Bool
is_tried said_met = true
is_tried said_apart = true
is_tried _ = false
