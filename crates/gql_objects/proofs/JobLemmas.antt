-- The tasks of an object are those of its fields, by what each asks.
use Rattle.std.proofs.Common.{◌≡◌, ℕ, Bool, false, List, [], ◌∷◌, ◌++◌, refl, sym}
use Rattle.gql_base.specs.Pairs.{values_of}
use Rattle.gql_doc.specs.declared.document.Field.{Field}
use Rattle.gql_doc.specs.declared.document.Positioned.{Positioned}
use Rattle.gql_doc.specs.declared.document.Selection.{Selection}
use Rattle.gql_resolve.specs.Call.{is_mutation}
use Rattle.gql_collect.specs.Basis.{execution_of}
use Rattle.gql_collect.specs.GroupFields.{groups_in}
use Rattle.gql_objects.specs.Jobs.{job_of, jobs_at, jobs_at_as, jobs_by, jobs_by_as, jobs_of, jobs_of_as}
use Rattle.gql_collect.specs.Levels.{Asked, asked_in, asked_in_as, asked_on}
use Rattle.gql_complete.specs.FoundObjects.{Spot}
use Rattle.gql_collect.specs.declared.basis.Basis.{Basis}
use Rattle.gql_collect.proofs.AsksLemmas.{asking_is}

-- at the root a task is a root of a mutation where the operation is one
abbrev pub at_root : Asked → Bool
at_root asked = is_mutation asked.basis.env.now.operation.node.ty

module _ {V : Type 0} (basis : Basis) (spot : Spot V) where
  pub jobs_by_is : (members : List (List ℕ × Positioned Field))
      → jobs_by spot (values_of (asked_on basis spot.object members)) ≡ jobs_of basis spot members
  jobs_by_is [] = refl
  jobs_by_is (member ∷ members) =
      λ i. job_of basis spot member.1 (sym (asking_is false (execution_of basis) spot.parent spot.object member.1) i) ++ jobs_by_is members
      i

  -- the tasks of the root: they are roots of a mutation where the operation is one
  root_jobs_by : (members : List (List ℕ × Positioned Field))
      → jobs_by_as at_root spot (values_of (asked_on basis spot.object members)) ≡ jobs_of_as (is_mutation basis.env.now.operation.node.ty)
      basis spot members
  root_jobs_by [] = refl
  root_jobs_by (member ∷ members) =
      λ i. job_of basis spot member.1 (sym (asking_is (is_mutation basis.env.now.operation.node.ty) (execution_of basis) spot.parent
      spot.object member.1) i) ++ root_jobs_by members i

-- the tasks that a level makes for a value are those of its object by the definition
pub level_jobs : {V : Type 0} (basis : Basis) (spot : Spot V) (selections : List (Positioned Selection))
    → jobs_by spot (values_of (asked_in basis spot.object selections)) ≡ jobs_at basis selections spot
level_jobs basis spot selections =
    jobs_by_is basis spot (groups_in false basis spot.object selections)

-- those that the level of the root makes
pub root_level_jobs : {V : Type 0} (basis : Basis) (spot : Spot V) (selections : List (Positioned Selection))
    → jobs_by_as at_root spot (values_of (asked_in_as (is_mutation basis.env.now.operation.node.ty) basis spot.object selections))
    ≡ jobs_at_as (is_mutation basis.env.now.operation.node.ty) basis selections spot
root_level_jobs basis spot selections =
    root_jobs_by basis spot (groups_in (is_mutation basis.env.now.operation.node.ty) basis spot.object selections)
