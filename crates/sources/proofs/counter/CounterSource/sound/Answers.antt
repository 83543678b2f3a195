use Rattle.sources.proofs.Soundness.{counter_sound}
use Rattle.sources.proofs.counter.CounterSource.sound.Goals as goal

pub returns : goal.returns
returns c = counter_sound c.args.self.now.seed
