-- What is said of a task that stops before its end.
use Rattle.std.specs.Prelude.{ℕ, List, ◌++◌, Some, None, codes, decimal, Option}
use Rattle.std.specs.Option.{option_map}
use Rattle.task.specs.Fields.{wording}
use Rattle.task.specs.declared.line.LineFault.{LineFault}
use Rattle.task.specs.declared.line.LineFault.TheVariants as fault
use Rattle.session.specs.declared.trouble.Trouble.{Trouble}
use Rattle.session.specs.declared.trouble.Trouble.TheVariants.{Unreadable, Misplaced, NoText, Failed, Memory}

-- Why a task stops at a line that cannot be read.
abbrev pub line_trouble : LineFault → Trouble
line_trouble (fault.Expected e) = Unreadable e
line_trouble fault.Memory = Memory

-- The words of a failure are the system's, and left open.
abbrev pub message : Trouble → Option (List ℕ)
message (Unreadable e) = Some (codes "expected " ++ wording e)
message Misplaced = Some (codes "this directive is not allowed here")
message NoText = Some (codes "the path is not valid UTF-8")
message (Failed e) = None
message Memory = Some (codes "out of memory")

abbrev pub stopped_message : (line : ℕ) → Option (List ℕ) → Option (List ℕ)
stopped_message line said = option_map (λ words. codes "line " ++ (decimal line ++ (codes ": " ++ words))) said
