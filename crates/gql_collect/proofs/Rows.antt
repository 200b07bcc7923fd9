-- Which settings read sets as a collector does.
use Rattle.std.proofs.Common.{suc, [], ◌∷◌, refl, arith}
use Rattle.gql_collect.specs.CollectFields.{ReadsAlike, setting_by}
use Rattle.gql_collect.specs.declared.collect.Collector.{Collector}

module _ (collector : Collector) where
  -- what is possible under fields counts for nothing
  other_beneath : ReadsAlike collector (record (setting_by collector) { beneath = λ object name. object ∷ [] })
  other_beneath = record { fragments_are = refl; levels_are = refl; covers_are = refl }

  -- the number of levels counts
  one_level_more : ReadsAlike collector (record (setting_by collector) { levels = suc collector.levels }) → ⊥
  one_level_more reads = omega (arith, reads.levels_are)
