-- The number of each refusal of a source, with the values that come with it.
use Rattle.std.specs.Prelude.{[], ◌∷◌}
use Rattle.refusal.specs.Refusals.{Refusal, numbered}
use Rattle.sources.specs.declared.fault.NoWord.{NoWord}
use Rattle.sources.specs.declared.fault.RecordingFault.{RecordingFault}

abbrev pub no_word_refusal : NoWord → Refusal
no_word_refusal f = numbered 12 (f.place ∷ f.depth ∷ [])

abbrev pub recording_refusal : RecordingFault → Refusal
recording_refusal f = numbered 11 (f.length ∷ [])
