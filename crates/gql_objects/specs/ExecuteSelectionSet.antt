-- Execution over what a machine stands on (GraphQL, October 2021, sections 6.2 to 6.4): merged
-- execution where occurrences are grouped by their keys, and apart execution where each is alone.
use Rattle.std.specs.Prelude.{ℕ, false, List, map}
use Rattle.gql_doc.specs.declared.document.Field.{Field}
use Rattle.gql_doc.specs.declared.document.Positioned.{Positioned}
use Rattle.gql_doc.specs.declared.document.Selection.{Selection}
use Rattle.gql_meaning.specs.Responses.{Members, placed}
use Rattle.gql_place.specs.Join.{join}
use Rattle.gql_place.specs.declared.place.Place.{Place}
use Rattle.gql_resolve.specs.Call.{Call}
use Rattle.gql_resolve.specs.declared.answer.Answer.{Answer}
use Rattle.gql_resolve.specs.declared.field_value.FieldValue.{FieldValue}
use Rattle.gql_select.specs.Collected.{own_selections}
use Rattle.gql_select.specs.Grouped.{Placing, respond_by}
use Rattle.gql_objects.specs.Members.{place_of_job, members_with}
use Rattle.gql_collect.specs.Basis.{execution_of, setting_by}
use Rattle.gql_collect.specs.GroupFields.{groups_by, reading_by}
use Rattle.gql_objects.specs.Jobs.{Job, jobs_at}
use Rattle.gql_collect.specs.declared.basis.Basis.{Basis}
use Rattle.gql_collect.specs.Levels.{asked_in}
use Rattle.gql_complete.specs.FoundObjects.{Spot}

module _ {V : Type 0} (basis : Basis) (answer : Call V → Answer V) where
  -- how the fields that are collected become places
  abbrev pub placing_among : Placing (List ℕ) (FieldValue V) (Positioned Field)
      (Positioned Selection) Place
  placing_among = record {
    reading = reading_by basis.grouping basis;
    place = placed (execution_of basis) false answer;
  }

  -- the members of an object, each group answered once, so many levels of sets deep
  abbrev pub members_by : ℕ → List ℕ → FieldValue V → List (Positioned Selection) → Members
  members_by n object parent selections =
      respond_by placing_among join (groups_by basis.grouping (setting_by basis)) n
      object parent selections

  -- those under a field
  abbrev pub beneath_by : ℕ → Positioned Field → List ℕ → FieldValue V → Members
  beneath_by n field object parent = members_by n object parent (own_selections field)

  -- the place of a task
  abbrev pub place_by : ℕ → Job V → Place
  place_by n job = place_of_job answer (beneath_by n job.field) job

module _ {V : Type 0} (basis : Basis) (answer : Call V → Answer V) (n : ℕ) where
  -- the members of an object, of the places of its tasks
  abbrev pub members_of_tasks : List (Positioned Selection) → Spot V → List (List ℕ × Place)
  members_of_tasks selections spot =
      members_with spot.object (asked_in basis spot.object selections)
      (map (place_by basis answer n) (jobs_at basis selections spot))
