use Rattle.std.proofs.Common.{◌≡◌, ◌^◌}
use Rattle.batch.specs.Ends.{SameExtents}
use Rattle.batch.specs.Lent.{SameEnds, ends_of}
use Rattle.batch.specs.Meanings.{open_machine, open_one}
use Rattle.batch.specs.Runs.{ComesTo}
use Rattle.batch.specs.Settings.{setting_of}
use Rattle.batch.specs.Tries.{with_two}
use Rattle.batch.proofs.draws.OpenDraw.try_windows.Given as goal

-- the run has come to the window that is next
abbrev pub invariant-loop-exponent : goal.invariant-loop-exponent
invariant-loop-exponent g l =
    ComesTo (setting_of g.K.Kind g.S.Source l.setting) (open_machine l.initial.self) (with_two (open_one l.initial.self) (ends_of g.K.Kind l.initial.ends)) (2 ^ l.exponent) (with_two (open_one l.self) (ends_of g.K.Kind l.ends))
    × (l.self.batch ≡ l.initial.self.batch)
    × SameExtents (ends_of g.K.Kind l.initial.ends) (ends_of g.K.Kind l.ends)
    × SameEnds l.initial.ends l.ends
