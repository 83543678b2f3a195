-- What the stages of a batch and the replies mean.
use Rattle.refusal.specs.Refusals.{Refusal}
use Rattle.batch.specs.Faults.{fault_refusal}
use Rattle.batch.specs.Machine.{Machine}
use Rattle.batch.specs.Meanings.{batch_machine, met_machine, open_machine}
use Rattle.batch.specs.Requests.{Said, said_apart, said_closed, said_given_up, said_met, said_misplaced, said_opened, said_refused}
use Rattle.batch.specs.declared.stage.Reply.{Reply}
use Rattle.batch.specs.declared.stage.Reply.TheVariants as reply
use Rattle.batch.specs.declared.stage.Stage.{Stage}
use Rattle.batch.specs.declared.stage.Stage.TheVariants as stage

abbrev pub stage_machine : Stage → Machine
stage_machine (stage.Idle b) = batch_machine b
stage_machine (stage.Open d token) = open_machine d
stage_machine (stage.Met d token) = met_machine d

abbrev pub said_by : {F : Type 0} → (F → Refusal) → Reply F → Said
said_by why reply.Opened = said_opened
said_by why reply.Met = said_met
said_by why reply.Apart = said_apart
said_by why reply.Closed = said_closed
said_by why reply.GivenUp = said_given_up
said_by why (reply.Refused f) = said_refused (fault_refusal why f)
said_by why reply.Misplaced = said_misplaced
