-- Which rule or source a request gives.
use Rattle.std.specs.Prelude.{◌≡◌, ℕ, List, Some, None, vec_items, Option}
use Rattle.independent_sets.specs.Sets.{rule_extent}
use Rattle.lattice.specs.Faults.{shape_refusal}
use Rattle.lattice.specs.Grid.{Extent}
use Rattle.lattice.specs.Shapes.{shape_answer}
use Rattle.partitions.specs.Partitions.{partitions_extent}
use Rattle.refusal.specs.Refusals.{Answer, Refusal, answer_as}
use Rattle.sources.specs.Readings.{counter_says}
use Rattle.sources.specs.Sources.{Reading}
use Rattle.sources.specs.SplitMix.{counter_reading}
use Rattle.spins.specs.Faults.{RuleAnswers, spins_refusal}
use Rattle.spins.specs.Spins.{rule_parts}
use Rattle.task.specs.Lines.{Request, partitions, recording, recording_file, seed, sets, spins}
use Rattle.session.specs.declared.rules.AnyRule.{AnyRule}
use Rattle.session.specs.declared.rules.AnyRule.TheVariants as rule
use Rattle.session.specs.declared.rules.RuleFault.{RuleFault}
use Rattle.session.specs.declared.rules.RuleFault.TheVariants as fault
use Rattle.session.specs.declared.rules.SourceGiven.{SourceGiven}
use Rattle.session.specs.declared.rules.SourceGiven.TheVariants as source

-- A rule by its kind and what it was made from.
pub data Rule : Type 0 where
  spin_rule : Extent × List ℕ → Rule
  partition_rule : Extent → Rule
  set_rule : Extent → Rule

abbrev pub rule_of : AnyRule → Rule
rule_of (rule.Spins k) = spin_rule (rule_parts k)
rule_of (rule.Partitions k) = partition_rule (partitions_extent k)
rule_of (rule.Sets k) = set_rule (rule_extent k)

abbrev pub rule_refusal : RuleFault → Refusal
rule_refusal (fault.Spins e) = spins_refusal e
rule_refusal (fault.Shape e) = shape_refusal e

-- The rule that a request gives, or its refusal. The cap of spins and sets is 1.
abbrev pub SpinsAnswers : (rows columns : ℕ) → List ℕ → Answer Rule → Type 0
SpinsAnswers rows columns thresholds a =
    (b : Answer (Extent × List ℕ)) × RuleAnswers (shape_answer rows columns 1 1) thresholds b × (a ≡ answer_as spin_rule b)

abbrev pub partitions_answer : (rows columns most : ℕ) → Answer Rule
partitions_answer rows columns most = answer_as partition_rule (shape_answer rows columns most 255)

abbrev pub sets_answer : (rows columns : ℕ) → Answer Rule
sets_answer rows columns = answer_as set_rule (shape_answer rows columns 1 1)

abbrev pub GivesRule : Request → Option (Answer Rule) → Type 0
GivesRule (spins rows columns thresholds) None = ⊥
GivesRule (spins rows columns thresholds) (Some a) = SpinsAnswers rows columns thresholds a
GivesRule (partitions rows columns most) o = o ≡ Some (partitions_answer rows columns most)
GivesRule (sets rows columns) o = o ≡ Some (sets_answer rows columns)
GivesRule _ o = o ≡ None

-- Where the words come from.
pub data From : Type 0 where
  words_of : Reading → From
  bytes_given : List ℕ → From
  file_at : List ℕ → From

abbrev pub source_of : SourceGiven → From
source_of (source.Counter c) = words_of (counter_says c)
source_of (source.Bytes bytes) = bytes_given (vec_items bytes)
source_of (source.File path) = file_at (vec_items path)

-- The source that a request gives. No other request gives one.
abbrev pub source_given : Request → Option From
source_given (seed n) = Some (words_of (counter_reading n))
source_given (recording bytes) = Some (bytes_given bytes)
source_given (recording_file path) = Some (file_at path)
source_given _ = None
