-- Answering by groups, where a group is all occurrences of a key, is merged execution.
use Rattle.std.proofs.Common.{◌≡◌, ℕ, zero, suc, List, [], refl, ◌∙◌}
use Rattle.gql_base.specs.Pairs.{HasDistinctNames}
use Rattle.gql_select.specs.Grouped.{grouped, respond_by, Placing}
use Rattle.gql_select.specs.Reading.{keyed, merged, over}
use Rattle.gql_select.proofs.UnitingLemmas.{distinct_over, distinct_united, united_distinct}

module _ {O P F X Pl : Type 0} (placing : Placing O P F X Pl) (join : Pl → Pl → Pl) where
  -- merged fields have distinct keys
  merged_distinct : (fs : List F) → HasDistinctNames (merged placing.reading fs)
  merged_distinct fs = distinct_united placing.reading.both [] (keyed placing.reading fs) tt

  pub by_merged_groups : (n : ℕ) (o : O) (p : P) (set : List X) → respond_by placing join (merged placing.reading) n o p set ≡ grouped placing n o p set
  by_merged_groups zero o p set = refl
  by_merged_groups (suc n) o p set =
      let ms : List (List ℕ × F) = merged placing.reading (placing.reading.fields o set) in
      united_distinct join _ (distinct_over _ ms (merged_distinct (placing.reading.fields o set)))
      ∙ (λ i. over (λ f. placing.place o p f (λ inner parent. by_merged_groups n inner parent (placing.reading.set f) i)) ms)
