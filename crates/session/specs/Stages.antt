-- The stages of a task, and what each of its lines comes to.
use Rattle.std.specs.Prelude.{ℕ, ◌+◌, ◌-◌, ◌^◌, min, Bool, true, false, cond, ◌||◌, List, [], ◌∷◌, length, take, Some, None, Ok, Err, Option, Result, ◌==◌, slice_index}
use Rattle.batch.specs.Machine.{Out, met_draw, none, open_draw}
use Rattle.task.specs.Lines.{Line, Request, close, directive, draws, give_up, «open», partitions, passed_over, recording, recording_file, run, seed, sets, spins, states, stretch, tally, trace, try, unreadable}
use Rattle.session.specs.declared.stage.Stage.{Stage}
use Rattle.session.specs.declared.stage.Stage.TheVariants.{Start, Ruled, Sourced, Idle, DrawOpen, DrawMet}
use Rattle.session.specs.declared.trouble.Trouble.{Trouble}
use Rattle.session.specs.declared.trouble.Trouble.TheVariants.{Misplaced, Unreadable}

-- The stage of a task that has a batch, by the draw that is out.
abbrev pub stage_with : Out → Stage
stage_with none = Idle
stage_with (open_draw d) = DrawOpen
stage_with (met_draw d) = DrawMet

abbrev pub as_the_first : Stage → Bool
as_the_first Start = true
as_the_first _ = false

abbrev pub after_the_rule : Stage → Bool
after_the_rule Ruled = true
after_the_rule _ = false

abbrev pub after_the_source : Stage → Bool
after_the_source Sourced = true
after_the_source _ = false

abbrev pub without_draw : Stage → Bool
without_draw Idle = true
without_draw _ = false

abbrev pub with_open_draw : Stage → Bool
with_open_draw DrawOpen = true
with_open_draw _ = false

abbrev pub with_met_draw : Stage → Bool
with_met_draw DrawMet = true
with_met_draw _ = false

-- At any point after the stretch, after the source, after the rule.
abbrev pub with_batch : Stage → Bool
with_batch s = without_draw s || with_open_draw s || with_met_draw s

abbrev pub with_source : Stage → Bool
with_source s = after_the_source s || with_batch s

abbrev pub with_rule : Stage → Bool
with_rule s = after_the_rule s || with_source s

-- When each request is allowed.
abbrev pub allowed : Request → Stage → Bool
allowed (spins rows columns thresholds) s = as_the_first s
allowed (partitions rows columns most) s = as_the_first s
allowed (sets rows columns) s = as_the_first s
allowed (seed n) s = after_the_rule s
allowed (recording bytes) s = after_the_rule s
allowed (recording_file path) s = after_the_rule s
allowed (trace t) s = with_source s
allowed (stretch n) s = after_the_source s
allowed «open» s = without_draw s
allowed (try t) s = with_open_draw s
allowed run s = with_open_draw s
allowed close s = with_met_draw s
allowed give_up s = with_open_draw s
allowed (draws n) s = without_draw s
allowed states s = with_rule s
allowed tally s = with_batch s

-- What a line comes to: nothing, a request that the stage allows, or the end of the task.
abbrev pub line_answer : Stage → Line → Result (Option Request) Trouble
line_answer s passed_over = Ok None
line_answer s (directive q) = cond (allowed q s) (Ok (Some q)) (Err Misplaced)
line_answer s (unreadable e) = Err (Unreadable e)

abbrev pub last_of : List ℕ → ℕ
last_of bytes = slice_index bytes (length bytes - 1)

-- A line without the newline at its end, which the last one may lack.
abbrev pub without_newline : List ℕ → List ℕ
without_newline bytes = cond (last_of bytes == 10) (take (length bytes - 1) bytes) bytes

-- The line that was read, or none at the end of the text, where no byte was.
abbrev pub line_read : List ℕ → Option (List ℕ)
line_read [] = None
line_read (b ∷ bs) = Some (without_newline (b ∷ bs))

-- The number of lines read, with one line more or at the end of the text.
abbrev pub counted : {A : Type 0} → Option A → ℕ → ℕ
counted None n = n
counted (Some line) n = min (n + 1) (2 ^ 64 - 1)
