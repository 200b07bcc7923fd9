-- Which tasks of merged execution are roots of a mutation: those of the root keys of one.
use Rattle.std.specs.Prelude.{◌≡◌, ◌||◌, ℕ, zero, suc, Bool, true, false, cond, List, [], ◌∷◌, ◌++◌}
use Rattle.std.specs.Prelude.{Option, Some, None, slice_get, option_and_then}
use Rattle.std.proofs.Common.{refl, subst}
use Rattle.std.specs.List.{AllByRecursion, flat_map}
use Rattle.gql_base.specs.declared.path_segment.PathSegment.{PathSegment}
use Rattle.gql_base.specs.declared.path_segment.PathSegment.TheVariants as segment
use Rattle.gql_base.specs.declared.value.Value.{Value}
use Rattle.gql_doc.specs.declared.document.Field.{Field}
use Rattle.gql_doc.specs.declared.document.Positioned.{Positioned}
use Rattle.gql_doc.specs.declared.document.Selection.{Selection}
use Rattle.gql_collect.specs.KeyNames.{key_text}
use Rattle.gql_collect.specs.Execution.{Asking, asking_at, Execution, field_asking, is_typename}
use Rattle.gql_collect.specs.TableSetting.{arguments_in, field_in}
use Rattle.gql_resolve.specs.declared.answer.Answer.{Answer}
use Rattle.gql_resolve.specs.declared.field_value.FieldValue.{FieldValue}
use Rattle.gql_schema.specs.TableReading.{Declared}
use Rattle.gql_select.specs.Alike.{arguments_of, name_of}
use Rattle.gql_select.specs.Collected.{own_selections}
use Rattle.gql_select.specs.Constants.{constants}
use Rattle.gql_collect.specs.Basis.{execution_of}
use Rattle.gql_collect.specs.GroupFields.{groups_in}
use Rattle.gql_engine.specs.GivenTasks.{asked_by_job}
use Rattle.gql_objects.specs.Jobs.{completed_by, Job, job_at, job_of, jobs_at}
use Rattle.gql_objects.specs.Jobs.{jobs_at_as, jobs_beneath, jobs_of_as}
use Rattle.gql_complete.specs.FoundObjects.{Spot, spots}
use Rattle.gql_collect.specs.declared.basis.Basis.{Basis}

-- what holds of what is there, if anything
abbrev pub OfSome : {X : Type 0} → (X → Type 0) → Option X → Type 0
OfSome P None = Unit {0}
OfSome P (Some x) = P x

-- what holds of all holds of each
some_at : {X : Type 0} (P : X → Type 0) (xs : List X) (k : ℕ) → AllByRecursion P xs
    → OfSome P (slice_get xs k)
some_at P [] k h = tt
some_at P (x ∷ xs) zero h = h.0
some_at P (x ∷ xs) (suc k) h = some_at P xs k h.1

-- and of two lists, one after the other
all_both : {X : Type 0} (P : X → Type 0) (xs ys : List X) → AllByRecursion P xs
    → AllByRecursion P ys → AllByRecursion P (xs ++ ys)
all_both P [] ys h k = k
all_both P (x ∷ xs) ys h k = (h.0, all_both P xs ys h.1 k)

-- and of lists that are made of each item
all_flat : {X Y : Type 0} (P : Y → Type 0) (f : X → List Y) → ((x : X) → AllByRecursion P (f x))
    → (xs : List X) → AllByRecursion P (flat_map f xs)
all_flat P f each [] = tt
all_flat P f each (x ∷ xs) = all_both P (f x) (flat_map f xs) (each x) (all_flat P f each xs)

module _ {V : Type 0} (root : Bool) where
  -- whether a call is one of a root of a mutation is as it is said
  abbrev pub IsAs : Asking V → Type 0
  IsAs asking = asking.call.is_root ≡ root

  number_as : (execution : Execution) (parent : FieldValue V) (arguments : List (List ℕ × Value))
      (declared : Declared) (number : Option ℕ)
      → OfSome IsAs
      (asking_at root execution parent arguments (record declared { number = number }))
  number_as execution parent arguments declared None = tt
  number_as execution parent arguments declared (Some resolver) = refl

  declared_as : (execution : Execution) (parent : FieldValue V)
      (arguments : List (List ℕ × Value)) (found : Option Declared)
      → OfSome IsAs (option_and_then (asking_at root execution parent arguments) found)
  declared_as execution parent arguments None = tt
  declared_as execution parent arguments (Some declared) =
      number_as execution parent arguments declared declared.number

  tested_as : (test : Bool) (asking : Option (Asking V)) → OfSome IsAs asking
      → OfSome IsAs (cond test None asking)
  tested_as true asking h = tt
  tested_as false asking h = h

  field_as : (execution : Execution) (object : List ℕ) (parent : FieldValue V)
      (field : Positioned Field)
      → OfSome IsAs (field_asking root execution object parent field)
  field_as execution object parent field =
      let found = field_in execution.schema object (name_of field) in
      let arguments = constants execution.known (arguments_in found) (arguments_of field) in
      tested_as (execution.only_introspection || is_typename (name_of field))
      (option_and_then (asking_at root execution parent arguments) found)
      (declared_as execution parent arguments found)

  -- the same of a task
  abbrev pub IsJobAs : Job V → Type 0
  IsJobAs job = job.asking.call.is_root ≡ root

  at_as : (basis : Basis) (object : List ℕ) (path : List PathSegment)
      (field : Positioned Field) (asking : Option (Asking V)) → OfSome IsAs asking
      → AllByRecursion IsJobAs (job_at basis object path field asking)
  at_as basis object path field None h = tt
  at_as basis object path field (Some asking) h = (h, tt)

  members_as : (basis : Basis) (spot : Spot V) (members : List (List ℕ × Positioned Field))
      → AllByRecursion IsJobAs (jobs_of_as root basis spot members)
  members_as basis spot [] = tt
  members_as basis spot (member ∷ members) =
      all_both IsJobAs
      (job_of basis spot member.1
      (field_asking root (execution_of basis) spot.object spot.parent member.1))
      (jobs_of_as root basis spot members)
      (at_as basis spot.object (spot.path ++ segment.Field (key_text member.1) ∷ []) member.1
      (field_asking root (execution_of basis) spot.object spot.parent member.1)
      (field_as (execution_of basis) spot.object spot.parent member.1))
      (members_as basis spot members)

  -- so it is of the tasks of an object
  pub jobs_as : (basis : Basis) (selections : List (Positioned Selection)) (spot : Spot V)
      → AllByRecursion IsJobAs (jobs_at_as root basis selections spot)
  jobs_as basis selections spot =
      members_as basis spot (groups_in root basis spot.object selections)

module _ {V : Type 0} where
  -- a task isn't a root of a mutation
  abbrev pub IsJobBelow : Job V → Type 0
  IsJobBelow job = job.asking.call.is_root ≡ false

  -- no task of an object is one
  pub no_roots : (basis : Basis) (selections : List (Positioned Selection)) (spot : Spot V)
      → AllByRecursion IsJobBelow (jobs_at basis selections spot)
  no_roots basis selections spot = jobs_as false basis selections spot

  -- and none under another one
  pub none_is_root : (job : Job V) (answer : Answer V) (place : ℕ) (below : Job V)
      → slice_get (jobs_beneath job answer) place ≡ Some below
      → (asked_by_job below).call.is_root ≡ false
  none_is_root job answer place below is =
      subst (OfSome IsJobBelow) is
      (some_at IsJobBelow (jobs_beneath job answer) place
      (all_flat IsJobBelow (jobs_at job.basis (own_selections job.field))
      (no_roots job.basis (own_selections job.field)) (spots (completed_by job answer) job.path)))
