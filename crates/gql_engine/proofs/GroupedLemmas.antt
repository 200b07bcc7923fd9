-- What executions by groups are: merged execution, or apart execution.
use Rattle.std.proofs.Common.{◌≡◌, ℕ, true, false, refl, ap, ◌∙◌}
use Rattle.gql_engine.specs.declared.scene.Scene.{Scene}
use Rattle.gql_meaning.specs.Responses.{levels_beneath}
use Rattle.gql_place.specs.Join.{join}
use Rattle.gql_resolve.specs.Call.{Call}
use Rattle.gql_resolve.specs.declared.answer.Answer.{Answer}
use Rattle.gql_select.proofs.FewerLemmas.{grouped_fewer, serial_fewer}
use Rattle.gql_select.proofs.GroupLemmas.{by_merged_groups}
use Rattle.gql_select.specs.Collected.{own_selections}
use Rattle.gql_select.specs.Fewer.{FirstCountsInTurn}
use Rattle.gql_select.specs.Grouped.{in_turn}
use Rattle.gql_collect.specs.Basis.{execution_of, setting_by}
use Rattle.gql_collect.specs.GroupFields.{collected}
use Rattle.gql_collect.proofs.CollectedLemmas.{collected_leaves}
use Rattle.gql_objects.specs.ExecuteSelectionSet.{placing_among}
use Rattle.gql_engine.specs.ExecuteQuery.{apart_response, basis_of, merged_response, place_at_root, placing_in, response_by, root_selections, root_spot}
use Rattle.gql_engine.specs.ExecuteMutation.{answering, keys_by, root_asked, serial_apart_response, serial_response, serial_response_by}
use Rattle.gql_engine.proofs.FewerKeyLemmas.{is_read, nest_in, operation_nests, placed_first, world_first}
use Rattle.gql_collect.specs.declared.basis.Grouping.TheVariants as grouping

module _ {V : Type 0} (scene : Scene V) where
  -- by groups of one key: merged execution
  pub by_key_is_merged : (answer : Call V → Answer V) (n : ℕ) → response_by grouping.ByKey scene answer n ≡ merged_response scene answer n
  by_key_is_merged answer n =
      ap (place_at_root scene)
      (by_merged_groups (placing_among (basis_of scene) answer) join n (root_spot scene).object (root_spot scene).parent (root_selections scene)
      ∙ grouped_fewer (placing_in scene answer) (is_read scene) (placed_first false (execution_of (basis_of scene)) answer (setting_by (basis_of scene)))
      (collected grouping.ByKey (basis_of scene)) (nest_in scene) (collected_leaves (basis_of scene)) n (root_spot scene).object (root_spot scene).parent
      (root_selections scene) (operation_nests scene))

  -- so it is where places are kept whole
  pub by_key_whole_is_merged : (answer : Call V → Answer V) (n : ℕ) → response_by grouping.ByKeyWhole scene answer n ≡ merged_response scene answer n
  by_key_whole_is_merged answer n = by_key_is_merged answer n

  -- of each occurrence alone: apart execution
  pub each_is_apart : (answer : Call V → Answer V) (n : ℕ) → response_by grouping.Each scene answer n ≡ apart_response scene answer n
  each_is_apart answer n = refl

  module _ {W : Type 0} (answer : Call V → W → Answer V) (effect : Call V → W → W) where
    -- a mutation is answered by first occurrences
    answering_first : FirstCountsInTurn (answering scene answer effect)
    answering_first = record {
      root = λ world. placed_first true (execution_of (basis_of scene)) (λ call. answer call world) (setting_by (basis_of scene));
      place = λ world. placed_first false (execution_of (basis_of scene)) (λ call. answer call world) (setting_by (basis_of scene));
      effect = λ world f g. world_first (execution_of (basis_of scene)) effect (root_asked scene) world f g;
    }

    pub serial_by_key : (world : W) (n : ℕ) → serial_response_by scene answer effect grouping.ByKey world n ≡ serial_response scene answer effect world n
    serial_by_key world n =
        (λ i. place_at_root scene
        (in_turn (answering scene answer effect).effect
        (λ before behind field. (answering scene answer effect).root before (root_spot scene).object (root_spot scene).parent field
        (λ object parent. by_merged_groups (placing_among (basis_of scene) (λ call. answer call behind)) join (levels_beneath n) object parent (own_selections field) i))
        world (keys_by grouping.ByKey scene)))
        ∙ ap (place_at_root scene)
        (serial_fewer (answering scene answer effect) (is_read scene) answering_first (collected grouping.ByKey (basis_of scene)) (nest_in scene)
        (collected_leaves (basis_of scene)) (levels_beneath n) (root_spot scene).object (root_spot scene).parent (root_selections scene) world
        (operation_nests scene))

    pub serial_by_key_whole : (world : W) (n : ℕ) → serial_response_by scene answer effect grouping.ByKeyWhole world n ≡ serial_response scene answer effect world n
    serial_by_key_whole world n = serial_by_key world n

    pub serial_each : (world : W) (n : ℕ) → serial_response_by scene answer effect grouping.Each world n ≡ serial_apart_response scene answer effect world n
    serial_each world n = refl
