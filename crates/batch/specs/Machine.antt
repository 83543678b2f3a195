-- The machine of a batch: its counts, and the draw that is out.
-- A batch hands out one draw after another and gives each a stretch of the source's places. A draw is open until a window
-- of it meets or it is given up.
use Rattle.std.specs.Prelude.{ℕ, ◌+◌, ◌^◌, ◌&&◌, Some, None, Option, nat_le, nat_lt}
use Rattle.refusal.specs.Refusals.{Answer, given, provided, refused}
use Rattle.batch.specs.Faults.{full_refusal, stretch_refusal}

-- A draw: its number, counted from 0, and the largest window tried on it, 0 at first.
pub record Draw : Type 0 where
  pub number : ℕ
  pub tried : ℕ

-- A draw is out from its open until it is closed or given up. At most one is: an open draw, or one that has met.
pub data Out : Type 0 where
  none : Out
  open_draw : Draw → Out
  met_draw : Draw → Out

-- The length of each draw's stretch of places, the counts of draws opened, closed as met and given up, and the draw.
pub record Machine : Type 0 where
  pub stretch : ℕ
  pub opened : ℕ
  pub met : ℕ
  pub given_up : ℕ
  pub out : Out

-- The largest stretch, and the largest number of draws.
abbrev pub limit : ℕ
limit = 2 ^ 20

abbrev pub new_machine : ℕ → Machine
new_machine s = record { stretch = s; opened = 0; met = 0; given_up = 0; out = none }

-- A stretch from 1 to the limit makes a batch.
abbrev pub new_answer : ℕ → Answer Machine
new_answer s = provided (nat_le 1 s && nat_le s limit) stretch_refusal (given (new_machine s))

-- One draw more, with the count before as its number.
abbrev pub one_opened : Machine → Machine
one_opened m =
    record { stretch = m.stretch; opened = m.opened + 1; met = m.met; given_up = m.given_up; out = open_draw (record { number = m.opened; tried = 0 }) }

-- A draw can be opened until the limit is reached.
abbrev pub open_answer : Machine → Answer Machine
open_answer m = provided (nat_lt m.opened limit) full_refusal (given (one_opened m))

-- The machine that a call leaves: the one that it gives, or after a refusal the one before.
abbrev pub left_after : Answer Machine → Machine → Machine
left_after (given m) old = m
left_after (refused c) old = old

-- The draw is closed as met, or given up.
abbrev pub one_closed : Machine → Machine
one_closed m = record { stretch = m.stretch; opened = m.opened; met = m.met + 1; given_up = m.given_up; out = none }

abbrev pub one_given_up : Machine → Machine
one_given_up m = record { stretch = m.stretch; opened = m.opened; met = m.met; given_up = m.given_up + 1; out = none }

-- The machine with another draw out.
abbrev pub with_out : Machine → Out → Machine
with_out m o = record { stretch = m.stretch; opened = m.opened; met = m.met; given_up = m.given_up; out = o }

-- The counts alone.
pub record Counts : Type 0 where
  pub opened : ℕ
  pub met : ℕ
  pub given_up : ℕ

abbrev pub counts : Machine → Counts
counts m = record { opened = m.opened; met = m.met; given_up = m.given_up }

-- The draw that is out, whether it has met or not.
abbrev pub drawn : Out → Option Draw
drawn none = None
drawn (open_draw d) = Some d
drawn (met_draw d) = Some d
