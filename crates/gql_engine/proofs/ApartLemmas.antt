-- Where fields of one key agree, apart execution of a scene is merged execution.
use Rattle.std.proofs.Common.{◌≡◌, ℕ, zero, suc, Bool, true, false, List, refl, ap, ◌∙◌}
use Rattle.gql_doc.specs.declared.document.Field.{Field}
use Rattle.gql_doc.specs.declared.document.Positioned.{Positioned}
use Rattle.gql_doc.specs.declared.document.Selection.{Selection}
use Rattle.gql_engine.specs.declared.scene.Scene.{Scene}
use Rattle.gql_meaning.proofs.ExecutionLemmas.{are_fitting}
use Rattle.gql_collect.specs.Execution.{Execution, setting_in}
use Rattle.gql_meaning.specs.Outcomes.{field_outcome, named_outcome}
use Rattle.gql_meaning.specs.Responses.{world_after}
use Rattle.gql_collect.specs.TableSetting.{declared_arguments}
use Rattle.gql_place.proofs.LawProofs.{is_answering, mutation_places_apart_are_merged, places_apart_are_merged}
use Rattle.gql_place.specs.Answered.{IsAnswering}
use Rattle.gql_resolve.specs.Call.{Call}
use Rattle.gql_resolve.specs.declared.answer.Answer.{Answer}
use Rattle.gql_resolve.specs.declared.field_value.FieldValue.{FieldValue}
use Rattle.gql_collect.specs.Basis.{execution_of}
use Rattle.gql_collect.specs.DeclaredFields.{declared_reading}
use Rattle.gql_engine.specs.ExecuteQuery.{AgreesInside, apart_response, basis_of, merged_response, place_at_root, reading_in, response_by, root_selections, root_spot}
use Rattle.gql_engine.specs.ExecuteMutation.{root_asked, serial_apart_response, serial_response, serial_response_by}
use Rattle.gql_collect.specs.declared.basis.Grouping.{Grouping}
use Rattle.gql_collect.specs.declared.basis.Grouping.TheVariants as grouping
use Rattle.gql_engine.proofs.FewerKeyLemmas.{is_read}
use Rattle.gql_engine.proofs.GroupedLemmas.{by_key_is_merged, by_key_whole_is_merged, each_is_apart, serial_by_key, serial_by_key_whole, serial_each}

-- answers hang on what a field asks alone, by whatever fragments the fields are read
answers_alike : {V : Type 0} (is_root : Bool) (execution : Execution) (answer : Call V → Answer V)
    → IsAnswering (declared_reading execution (setting_in execution)) (λ field. field.pos) (field_outcome is_root execution answer)
answers_alike is_root execution answer =
    let kept = is_answering execution.known (setting_in execution) (declared_arguments execution.schema) (named_outcome is_root execution answer)
    (are_fitting is_root execution answer) in
    record {
      pos_of_both = kept.pos_of_both;
      outcome_of_both = kept.outcome_of_both;
      outcome_of_alike = kept.outcome_of_alike;
      objects_are_possible = kept.objects_are_possible;
    }

module _ {V : Type 0} (scene : Scene V) where
  pub apart_is_merged : (answer : Call V → Answer V) (n : ℕ) → AgreesInside scene n → apart_response scene answer n ≡ merged_response scene answer n
  apart_is_merged answer n agree =
      let execution = execution_of (basis_of scene) in
      ap (place_at_root scene)
      (places_apart_are_merged (List ℕ) (FieldValue V) (Positioned Field) (Positioned Selection) (reading_in scene)
      (is_read scene) (λ field. field.pos) (field_outcome false execution answer) (answers_alike false execution answer)
      n (root_spot scene).object (root_spot scene).parent (root_selections scene) agree)

  -- so it is for any grouping
  pub alike_by : (by : Grouping) (answer : Call V → Answer V) (n : ℕ) → AgreesInside scene n → response_by by scene answer n ≡ merged_response scene answer n
  alike_by grouping.ByKey answer n agree = by_key_is_merged scene answer n
  alike_by grouping.ByKeyWhole answer n agree = by_key_whole_is_merged scene answer n
  alike_by grouping.Each answer n agree = each_is_apart scene answer n ∙ apart_is_merged answer n agree

  module _ {W : Type 0} (answer : Call V → W → Answer V) (effect : Call V → W → W) (world : W) where
    pub serial_apart_is_merged : (n : ℕ) → AgreesInside scene n
        → serial_apart_response scene answer effect world n ≡ serial_response scene answer effect world n
    serial_apart_is_merged zero agree = refl
    serial_apart_is_merged (suc n) agree =
        let execution = execution_of (basis_of scene) in
        ap (place_at_root scene)
        (mutation_places_apart_are_merged (List ℕ) (FieldValue V) (Positioned Field) (Positioned Selection) W (reading_in scene)
        (is_read scene) (world_after execution effect (root_asked scene)) (λ field. field.pos)
        (λ w. field_outcome true execution (λ call. answer call w)) (λ w. field_outcome false execution (λ call. answer call w))
        (λ w. answers_alike true execution (λ call. answer call w)) (λ w. answers_alike false execution (λ call. answer call w))
        n (root_spot scene).object (root_spot scene).parent (root_selections scene) world agree)

    pub serial_alike_by : (by : Grouping) (n : ℕ) → AgreesInside scene n
        → serial_response_by scene answer effect by world n ≡ serial_response scene answer effect world n
    serial_alike_by grouping.ByKey n agree = serial_by_key scene answer effect world n
    serial_alike_by grouping.ByKeyWhole n agree = serial_by_key_whole scene answer effect world n
    serial_alike_by grouping.Each n agree = serial_each scene answer effect world n ∙ serial_apart_is_merged n agree
