-- The words of a window that a source can fill.
use Rattle.std.specs.Prelude.{ℕ, List}
use Rattle.coupling.specs.Windows.{window_words}
use Rattle.refusal.specs.declared.Cause as cause
use Rattle.sources.specs.declared.source.Source as source
use Rattle.batch.specs.declared.draws.windows.Window.{Window}

abbrev pub words_in : {S F : Type 0} (s : source.Ghosts S F) {c : cause.Ghosts F} → Window S F s c → List ℕ
words_in s w = window_words (s.reading w.places.source.now) w.places.stretch w.places.number w.places.window
