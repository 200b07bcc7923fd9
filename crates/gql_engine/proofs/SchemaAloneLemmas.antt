-- Where the schema alone is asked for, there is no task to begin with.
use Rattle.std.proofs.Common.{◌≡◌, ◌++◌, ◌||◌, ℕ, Bool, true, false, if◌then◌else◌, List, [], ◌∷◌, Option, None, ap, refl}
use Rattle.std.specs.List.{flat_map}
use Rattle.gql_collect.specs.Basis.{execution_of, is_introspection_only}
use Rattle.gql_collect.specs.Execution.{Execution, field_asking, is_typename}
use Rattle.gql_collect.specs.GroupFields.{groups_in}
use Rattle.gql_collect.specs.declared.basis.Grouping.{Grouping}
use Rattle.gql_doc.specs.declared.document.Field.{Field}
use Rattle.gql_doc.specs.declared.document.Positioned.{Positioned}
use Rattle.gql_engine.specs.ExecuteQuery.{basis_by, root_selections, root_spot}
use Rattle.gql_engine.specs.Laws.{HasNoTask}
use Rattle.gql_engine.specs.declared.scene.Scene.{Scene}
use Rattle.gql_objects.specs.Jobs.{job_of, jobs_at_as}
use Rattle.gql_resolve.specs.declared.field_value.FieldValue.{FieldValue}
use Rattle.gql_select.specs.Alike.{name_of}

-- a choice of which the condition holds
none_if : {A : Type 0} (only name : Bool) (other : Option A) → only ≡ true → (if only || name then None else other) ≡ None
none_if true name other is = refl
none_if false name other is = absurd (let bad : false ≡ true = is in cc)

flat_map_none : {A B : Type 0} (f : A → List B) → ((x : A) → f x ≡ []) → (xs : List A) → flat_map f xs ≡ []
flat_map_none f none [] = refl
flat_map_none f none (x ∷ xs) = λ i. none x i ++ flat_map_none f none xs i

module _ {V : Type 0} where
  -- no field asks an answer
  none_asked : (is_root : Bool) (execution : Execution) (object : List ℕ) (parent : FieldValue V) (field : Positioned Field)
      → execution.only_introspection ≡ true → field_asking is_root execution object parent field ≡ None
  none_asked is_root execution object parent field only = none_if execution.only_introspection (is_typename (name_of field)) _ only

  no_jobs_as : (is_root : Bool) (by : Grouping) (scene : Scene V) → is_introspection_only scene.env.now.introspection_mode ≡ true
      → jobs_at_as is_root (basis_by by scene) (root_selections scene) (root_spot scene) ≡ []
  no_jobs_as is_root by scene only =
      let basis = basis_by by scene in
      let spot = root_spot scene in
      flat_map_none
      (λ (member : List ℕ × Positioned Field).
      job_of basis spot member.1 (field_asking is_root (execution_of basis) spot.object spot.parent member.1))
      (λ member. ap (job_of basis spot member.1) (none_asked is_root (execution_of basis) spot.object spot.parent member.1 only))
      (groups_in is_root basis spot.object (root_selections scene))

  pub has_no_task : (by : Grouping) (scene : Scene V) → is_introspection_only scene.env.now.introspection_mode ≡ true → HasNoTask by scene
  has_no_task by scene only = record { query = no_jobs_as false by scene only; mutation = no_jobs_as true by scene only }
