-- The rule and the source of a setting.
use Rattle.batch.specs.Tries.{Setting, setting}
use Rattle.lattice.specs.declared.kind.Kind as kind
use Rattle.sources.specs.declared.source.Source as source
use Rattle.batch.specs.declared.setting.Setting as declared

abbrev pub setting_of : {K S State F : Type 0} → kind.Ghosts K State → source.Ghosts S F → declared.Setting K S State F → Setting
setting_of k s x = setting (k.meaning x.rule.now) (k.extent x.rule.now) (s.reading x.source.now)
