-- What is kept of tasks, and what fits it.
use Rattle.std.specs.Prelude.{◌≡◌, not, List, Option, map}
use Rattle.gql_base.specs.TypeRef.{is_nullable}
use Rattle.gql_resolve.specs.declared.answer.Answer.{Answer}
use Rattle.gql_select.specs.Collected.{own_selections}
use Rattle.gql_objects.specs.Entries.{Entry}
use Rattle.gql_collect.specs.GroupFields.{keeps_whole}
use Rattle.gql_objects.specs.Jobs.{completed_by, Job}
use Rattle.gql_objects.specs.Parents.{standing_at, standing_behind}
use Rattle.gql_complete.specs.FoundObjects.{bare, spots}
use Rattle.gql_objects.specs.declared.assembly.kept.Filled.{Filled}
use Rattle.gql_objects.specs.declared.assembly.kept.Kept.{Kept}
use Rattle.gql_place.specs.declared.piece.Piece.{Piece}
use Rattle.gql_objects.specs.PlaceStore.{Store}

module _ {V : Type 0} where
  -- what an answer to a task came to
  pub record IsFilled (job : Job V) (answer : Answer V) (filled : Filled V) : Type 0 where
    pub pos_is : filled.pos ≡ job.field.pos
    pub non_null_is : filled.non_null ≡ not (is_nullable job.asking.ty)
    pub added_is : filled.added ≡ answer.added
    pub headers_is : filled.headers ≡ answer.headers
    pub whole_is : filled.whole ≡ keeps_whole job.basis.grouping
    pub shape_is : filled.shape ≡ bare (completed_by job answer)
    pub parents_are : map standing_behind filled.parents.items
        ≡ map (standing_at job.basis (own_selections job.field))
        (spots (completed_by job answer) job.path)

  -- what is kept, in order
  abbrev pub entry_of : Kept V → Entry (Filled V)
  entry_of kept =
      record { number = kept.number; first = kept.first; count = kept.count; filled = kept.filled }

  -- all of it
  abbrev pub entries_in : List (Kept V) → List (Entry (Filled V))
  entries_in kept = map entry_of kept

  -- what is stored of the tasks of a plan
  abbrev pub store_in : List (Kept V) → List (Option Piece) → Store (Filled V) Piece
  store_in kept places = record { entries = entries_in kept; places = places }
