-- What the values of the protocol mean: the machine that each stands for, and the reports of its outcomes.
use Rattle.std.specs.Prelude.{ℕ, ◌+◌, Bool, true, false, List, Ok, Err, Result}
use Rattle.refusal.specs.Refusals.{Answer, Refusal, given, refused}
use Rattle.batch.specs.Faults.{fault_refusal, full_refusal}
use Rattle.batch.specs.Machine.{Counts, Draw, Machine, Out, met_draw, none, open_draw}
use Rattle.batch.specs.Tries.{Report}
use Rattle.batch.specs.declared.draws.Batch.{Batch}
use Rattle.batch.specs.declared.draws.MetDraw.{MetDraw}
use Rattle.batch.specs.declared.draws.OpenDraw.{OpenDraw}
use Rattle.batch.specs.declared.draws.Tally.{Tally}
use Rattle.batch.specs.declared.draws.Token.{Token}
use Rattle.batch.specs.declared.fault.Fault.{Fault}
use Rattle.batch.specs.declared.fault.Full.{Full}
use Rattle.batch.specs.declared.outcome.Outcome.{Outcome}
use Rattle.batch.specs.declared.outcome.Outcome.TheVariants.{Met, Apart, Refused}
use Rattle.batch.specs.declared.stage.Drawn.{Drawn}

abbrev pub tally_says : Tally → Counts
tally_says t = record { opened = t.opened; met = t.met; given_up = t.given_up }

abbrev pub drawn_says : Drawn → Draw
drawn_says d = record { number = d.number; tried = d.window }

abbrev pub batch_machine : Batch → Machine
batch_machine b = record { stretch = b.stretch; opened = b.tally.opened; met = b.tally.met; given_up = b.tally.given_up; out = none }

-- A draw holds its batch as it was before the open: by now one draw more has been opened.
abbrev pub with_draw : Batch → Out → Machine
with_draw b o = record { stretch = b.stretch; opened = b.tally.opened + 1; met = b.tally.met; given_up = b.tally.given_up; out = o }

abbrev pub open_one : OpenDraw → Draw
open_one d = record { number = d.batch.tally.opened; tried = d.tried }

abbrev pub met_one : MetDraw → Draw
met_one d = open_one d.draw

abbrev pub open_machine : OpenDraw → Machine
open_machine d = with_draw d.batch (open_draw (open_one d))

abbrev pub met_machine : MetDraw → Machine
met_machine d = with_draw d.draw.batch (met_draw (met_one d))

-- What an open answers, and the machine that it leaves.
abbrev pub opened_as : Result (OpenDraw × Token) Full → Answer Machine
opened_as (Ok p) = given (open_machine p.0)
opened_as (Err f) = refused full_refusal

abbrev pub left_by_open : Result (OpenDraw × Token) Full → Machine
left_by_open (Ok p) = open_machine p.0
left_by_open (Err f) = batch_machine f.batch

-- An outcome, and the cells of the two states after it, as a report.
abbrev pub outcome_report : {F : Type 0} → (F → Refusal) → Outcome F → (low high : List ℕ) → Report
outcome_report why (Met d) x y = record { answer = given true; machine = met_machine d; low = x; high = y }
outcome_report why (Apart d) x y = record { answer = given false; machine = open_machine d; low = x; high = y }
outcome_report why (Refused d f) x y = record { answer = refused (fault_refusal why f); machine = open_machine d; low = x; high = y }

-- The same, before the draw has been made one that met.
abbrev pub result_report : {F : Type 0} → (F → Refusal) → Result Bool (Fault F) → OpenDraw → (low high : List ℕ) → Report
result_report why (Ok true) d x y = record { answer = given true; machine = with_draw d.batch (met_draw (open_one d)); low = x; high = y }
result_report why (Ok false) d x y = record { answer = given false; machine = open_machine d; low = x; high = y }
result_report why (Err f) d x y = record { answer = refused (fault_refusal why f); machine = open_machine d; low = x; high = y }
