-- Objects whose fields are asked.
use Rattle.std.specs.Prelude.{ℕ, Bool, false, List, [], ◌++◌, Option, None}
use Rattle.std.specs.declared.alloc.Global.{Global}
use Rattle.std.specs.declared.rc.Rc.{Rc}
use Rattle.gql_base.specs.Pairs.{values_of}
use Rattle.gql_base.specs.declared.path_segment.PathSegment.{PathSegment}
use Rattle.gql_doc.specs.declared.document.Positioned.{Positioned}
use Rattle.gql_doc.specs.declared.document.Selection.{Selection}
use Rattle.gql_resolve.specs.Call.{is_mutation}
use Rattle.gql_resolve.specs.declared.field_value.FieldValue.{FieldValue}
use Rattle.gql_objects.specs.Jobs.{Job, jobs_by, jobs_by_as}
use Rattle.gql_collect.specs.Levels.{Asked, asked_in_as, members_of}
use Rattle.gql_objects.specs.Paths.{index_step, path_of}
use Rattle.gql_complete.specs.FoundObjects.{Spot}
use Rattle.gql_collect.specs.declared.basis.Basis.{Basis}
use Rattle.gql_objects.specs.declared.parent.Found.{Found}
use Rattle.gql_objects.specs.declared.parent.Held.{Held}
use Rattle.gql_objects.specs.declared.parent.Held.TheVariants as held
use Rattle.gql_objects.specs.declared.parent.Parent.{Parent}
use Rattle.gql_objects.specs.declared.parent.Trail.{Trail}
use Rattle.gql_objects.specs.declared.step.Step.{Step}

-- an object with its fields, each under its key with what it asks
pub record Standing (V : Type 0) : Type 0 where
  pub spot : Spot V
  pub members : List (List ℕ × Asked)

-- the steps of the way to an object
abbrev pub steps_by : Trail → List Step
steps_by trail = trail.steps.value.items ++ index_step trail.index

module _ {V : Type 0} where
  -- an object that came of an answer
  abbrev pub spot_found : Found V → Spot V
  spot_found found =
      record { object = found.object; parent = found.value; path = path_of (steps_by found.trail) }

  -- the value of which fields are asked
  abbrev pub value_of : Held V → FieldValue V
  value_of (held.Root root) = root.now
  value_of (held.Found value trail) = value

  -- the steps to the object whose fields they are, or to the list of which it is an item
  abbrev pub steps_before : Held V → List Step
  steps_before (held.Root root) = []
  steps_before (held.Found value trail) = trail.steps.value.items

  -- its index in that list
  abbrev pub index_of : Held V → Option ℕ
  index_of (held.Root root) = None
  index_of (held.Found value trail) = trail.index

  -- the steps to that object
  abbrev pub steps_to : Held V → List Step
  steps_to whole = steps_before whole ++ index_step (index_of whole)

  -- its path
  abbrev pub path_to : Held V → List PathSegment
  path_to whole = path_of (steps_to whole)

  -- an object whose fields are asked
  abbrev pub standing_of : Parent V → Standing V
  standing_of parent = record {
    spot =
        record {
          object = parent.level.value.object;
          parent = value_of parent.held;
          path = path_to parent.held;
        };
    members = members_of parent.level.value;
  }

  -- the same of one that is shared
  abbrev pub standing_behind : Rc (Parent V) Global → Standing V
  standing_behind parent = standing_of parent.value

  -- an object whose fields are asked in selections, as root keys of a mutation or as others
  abbrev pub standing_at_as : (is_root : Bool) → Basis → List (Positioned Selection) → Spot V
      → Standing V
  standing_at_as is_root basis selections spot =
      record { spot = spot; members = asked_in_as is_root basis spot.object selections }

  -- as others
  abbrev pub standing_at : Basis → List (Positioned Selection) → Spot V → Standing V
  standing_at basis selections spot = standing_at_as false basis selections spot

  -- whether the tasks of an object are roots of a mutation: they stand at the root of one
  abbrev pub rooted : Held V → Asked → Bool
  rooted (held.Root root) = λ asked. is_mutation asked.basis.env.now.operation.node.ty
  rooted (held.Found value trail) = λ asked. false

  -- its tasks
  abbrev pub jobs_here : Parent V → List (Job V)
  jobs_here parent = jobs_by_as (rooted parent.held) (standing_of parent).spot
      (values_of (standing_of parent).members)

  -- the tasks of an object that came of an answer
  abbrev pub jobs_of_standing : Standing V → List (Job V)
  jobs_of_standing standing = jobs_by standing.spot (values_of standing.members)
