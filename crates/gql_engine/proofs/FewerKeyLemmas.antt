-- Merged execution goes by the first spread of each fragment, and says all occurrences: what an occurrence asks
-- hangs on the first one of its key, and the root keys are the same but for repetitions.
use Rattle.std.proofs.Common.{◌≡◌, ◌+◌, ℕ, Bool, true, List, [], ◌∷◌, map, refl, ap, sym, ◌∙◌}
use Rattle.gql_base.specs.Pairs.{values_of}
use Rattle.gql_doc.specs.Depth.{operation_set}
use Rattle.gql_doc.specs.declared.document.Field.{Field}
use Rattle.gql_doc.specs.declared.document.Positioned.{Positioned}
use Rattle.gql_doc.specs.declared.document.Selection.{Selection}
use Rattle.gql_engine.specs.declared.scene.Scene.{Scene}
use Rattle.gql_collect.specs.Execution.{asking, Execution, field_asking}
use Rattle.gql_collect.specs.TableSetting.{declared_arguments}
use Rattle.gql_meaning.specs.Counted.{count_as, one_if, parents_in, total}
use Rattle.gql_meaning.specs.Outcomes.{field_outcome, named_outcome}
use Rattle.gql_meaning.specs.Responses.{Asked, placed, world_after, world_of}
use Rattle.gql_place.specs.Filled.{place_with}
use Rattle.gql_resolve.specs.Call.{Call}
use Rattle.gql_resolve.specs.declared.answer.Answer.{Answer}
use Rattle.gql_resolve.specs.declared.field_value.FieldValue.{FieldValue}
use Rattle.gql_select.proofs.DocumentLemmas.{arguments_of_both, name_of_both}
use Rattle.gql_select.proofs.FewerLemmas.{Close, fewer_paired, of_first}
use Rattle.gql_select.proofs.OnceLemmas.{nests_of}
use Rattle.gql_select.proofs.ThinLemmas.{ArePaired}
use Rattle.gql_select.specs.Collected.{Setting}
use Rattle.gql_select.specs.Constants.{constants}
use Rattle.gql_select.specs.Documents.{both}
use Rattle.gql_select.specs.Fewer.{FirstCounts}
use Rattle.gql_select.specs.Grouped.{world_behind}
use Rattle.gql_select.specs.Once.{nests}
use Rattle.gql_select.specs.Reading.{IsReading}
use Rattle.gql_collect.specs.Basis.{execution_of, setting_by}
use Rattle.gql_collect.specs.DeclaredFields.{declared_reading}
use Rattle.gql_collect.specs.GroupFields.{collected}
use Rattle.gql_collect.specs.declared.basis.Grouping.{Grouping}
use Rattle.gql_collect.specs.declared.basis.Grouping.TheVariants as grouping
use Rattle.gql_collect.proofs.CollectedLemmas.{collected_leaves}
use Rattle.gql_collect.proofs.DeclaredFieldLemmas.{is_declared_reading}
use Rattle.gql_engine.specs.ExecuteMutation.{keys_by, keys_of, last_world_of, root_asked}
use Rattle.gql_engine.specs.ExecuteQuery.{basis_of, reading_in, root_selections, root_spot}

module _ {V : Type 0} (is_root : Bool) (execution : Execution) where
  -- of two occurrences in one the first is asked
  pub asking_both : (object : List ℕ) (parent : FieldValue V) (f g : Positioned Field)
      → field_asking is_root execution object parent (both f g) ≡ field_asking is_root execution object parent f
  asking_both object parent f g =
      λ i. asking is_root execution object parent (name_of_both f g i)
      (constants execution.known (declared_arguments execution.schema object (name_of_both f g i)) (arguments_of_both f g i))

  module _ (answer : Call V → Answer V) where
    pub outcome_both : (object : List ℕ) (parent : FieldValue V) (f g : Positioned Field)
        → field_outcome is_root execution answer object parent (both f g) ≡ field_outcome is_root execution answer object parent f
    outcome_both object parent f g =
        λ i. named_outcome is_root execution answer object parent (name_of_both f g i)
        (constants execution.known (declared_arguments execution.schema object (name_of_both f g i)) (arguments_of_both f g i))

    module _ (setting : Setting) where
      -- so its place hangs on the first one
      pub placed_first : FirstCounts (declared_reading execution setting) (placed execution is_root answer)
      placed_first = λ o p f g below i. place_with f.pos (outcome_both o p f g i) below

      -- and so does what is asked for it
      pub counted_first : FirstCounts (declared_reading execution setting) (count_as execution answer is_root)
      counted_first = λ o p f g below i. one_if (asking_both o p f g i)
          + total (map (λ (inner : List ℕ × FieldValue V). total (values_of (below inner.0 inner.1))) (parents_in (outcome_both o p f g i).shape))

-- and what a root key does to the world
pub world_first : {V W : Type 0} (execution : Execution) (effect : Call V → W → W) (asked : Asked V) (world : W) (f g : Positioned Field)
    → world_after execution effect asked world (both f g) ≡ world_after execution effect asked world f
world_first execution effect asked world f g =
    λ i. world_of execution effect world (asking_both true execution asked.object asked.parent f g i)

module _ {V : Type 0} (scene : Scene V) where
  -- all occurrences are read as the laws ask
  abbrev pub is_read : IsReading (reading_in scene)
  is_read = is_declared_reading (execution_of (basis_of scene)) (setting_by (basis_of scene))

  -- sets nest within the levels of the request
  abbrev pub nest_in : List (Positioned Selection) → Bool
  nest_in selections = nests (setting_by (basis_of scene)).fragments (setting_by (basis_of scene)).levels selections

  -- that of the operation does
  pub operation_nests : nest_in (root_selections scene) ≡ true
  operation_nests =
      nests_of (setting_by (basis_of scene)).fragments (setting_by (basis_of scene)).levels (operation_set scene.env.now.operation) scene.env.now.nests

  -- the root keys as they are collected are those of all occurrences, but for repetitions
  pub keys_paired : ArePaired (Close (reading_in scene) is_read) (keys_of scene) (keys_by grouping.ByKey scene)
  keys_paired =
      fewer_paired (reading_in scene) is_read (collected grouping.ByKey (basis_of scene)) nest_in (collected_leaves (basis_of scene))
      (root_spot scene).object (root_selections scene) operation_nests

  module _ {W : Type 0} (effect : Call V → W → W) where
    abbrev step : W → Positioned Field → W
    step = world_after (execution_of (basis_of scene)) effect (root_asked scene)

    behind_paired : (world : W) (ps qs : List (List ℕ × Positioned Field)) → ArePaired (Close (reading_in scene) is_read) ps qs
        → world_behind step world qs ≡ world_behind step world ps
    behind_paired world [] [] paired = refl
    behind_paired world [] (q ∷ qs) paired = absurd paired
    behind_paired world (p ∷ ps) [] paired = absurd paired
    behind_paired world (p ∷ ps) (q ∷ qs) paired =
        let same : step world p.1 ≡ step world q.1
        = of_first (reading_in scene) is_read (step world)
        (λ f g. world_first (execution_of (basis_of scene)) effect (root_asked scene) world f g) p.1 q.1 paired.1.0.0 in
        ap (λ w. world_behind step w qs) (sym same) ∙ behind_paired (step world p.1) ps qs paired.1.1

    -- they leave the same world
    pub keys_leave : (how : Grouping) (world : W) → world_behind step world (keys_by how scene) ≡ last_world_of scene effect world
    keys_leave grouping.ByKey world = behind_paired world (keys_of scene) (keys_by grouping.ByKey scene) keys_paired
    keys_leave grouping.ByKeyWhole world = behind_paired world (keys_of scene) (keys_by grouping.ByKey scene) keys_paired
    keys_leave grouping.Each world = refl
