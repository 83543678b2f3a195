-- The readings that a generator and a recording have through the interface of sources.
use Rattle.sources.specs.Sources.{Reading}
use Rattle.sources.specs.contracts.counter.CounterSource.TheImpl.{ghosts as of_counters}
use Rattle.sources.specs.contracts.recording.RecordingSource.TheImpl.{ghosts as of_recordings}
use Rattle.sources.specs.declared.counter.Counter.{Counter}
use Rattle.sources.specs.declared.recording.Recording.{Recording}

abbrev pub counter_says : Counter → Reading
counter_says = of_counters.reading

abbrev pub recording_says : Recording → Reading
recording_says = of_recordings.reading
