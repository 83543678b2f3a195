-- All that holds in every history of a rule and a source.
use Rattle.batch.specs.Samples.{AgreeingHistoriesSampleAlike, AnswersAreExact}
use Rattle.batch.specs.Tallies.{TallyCountsTheCalls}
use Rattle.batch.specs.Tries.{Setting}

pub record HoldsInEveryHistory (s : Setting) : Type 0 where
  pub exact : AnswersAreExact s
  pub alike : AgreeingHistoriesSampleAlike s
  pub tally : TallyCountsTheCalls s
