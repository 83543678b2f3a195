use Rattle.task.proofs.Spaces.{spaced}
use Rattle.task.proofs.words.Words.new.Goals as goal

pub returns-clause-law : goal.returns-clause-law
returns-clause-law c = spaced c.args.line.now
