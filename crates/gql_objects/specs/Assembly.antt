-- How the places of tasks are put together of what is kept of them, and when they are right.
use Rattle.std.specs.Prelude.{◌≡◌, ◌≤◌, ℕ, Bool, false, List, [], ◌∷◌, Option, Some}
use Rattle.std.specs.Prelude.{drop, map, slice_get, take}
use Rattle.std.specs.List.{AllByRecursion}
use Rattle.gql_base.specs.declared.pos.Pos.{Pos}
use Rattle.gql_meaning.specs.Responses.{Members, root_place}
use Rattle.gql_place.specs.Alike.{Paired, Same}
use Rattle.gql_place.specs.Pieces.{place_in}
use Rattle.gql_place.specs.declared.piece.Piece.{Piece}
use Rattle.gql_place.specs.declared.place.Place.{Place}
use Rattle.gql_resolve.specs.Call.{Call}
use Rattle.gql_resolve.specs.declared.answer.Answer.{Answer}
use Rattle.gql_select.specs.Collected.{own_selections}
use Rattle.gql_base.specs.Pairs.{HasDistinctNames, values_of}
use Rattle.gql_objects.specs.Members.{members_with, places_behind_all}
use Rattle.gql_collect.specs.Basis.{setting_by}
use Rattle.gql_complete.specs.FillShape.{tree_with}
use Rattle.gql_collect.specs.GroupFields.{keeps_whole}
use Rattle.gql_objects.specs.KeptTasks.{IsFilled}
use Rattle.gql_objects.specs.Jobs.{Job, jobs_beneath}
use Rattle.gql_objects.specs.ExecuteSelectionSet.{place_by}
use Rattle.gql_objects.specs.Parents.{Standing, standing_behind}
use Rattle.gql_objects.specs.PlaceStore.{IsStored, present, put_open, Store}
use Rattle.gql_collect.specs.Nesting.{IsWithin}
use Rattle.gql_objects.specs.declared.assembly.kept.Filled.{Filled}
use Rattle.gql_objects.specs.declared.assembly.kept.Kept.{Kept}

module _ {V : Type 0} where
  -- the members of objects, where each takes the places of its tasks from the front
  abbrev pub members_each : List (Standing V) → List Place → List Members
  members_each [] places = []
  members_each (standing ∷ others) places =
      members_with standing.spot.object standing.members places
      ∷ members_each others (places_behind_all (values_of standing.members) places)

  -- the place of what a task came to, of the places of the tasks under it
  abbrev pub place_made : Filled V → List Place → Place
  place_made filled places = record {
    pos = filled.pos;
    non_null = filled.non_null;
    added = filled.added;
    headers = filled.headers;
    tree =
        tree_with filled.pos filled.shape
        (members_each (map standing_behind filled.parents.items) places);
  }

  -- unless places are kept whole, no object has a key twice
  abbrev pub AreApart : Bool → List (Standing V) → Type 0
  AreApart whole standings =
      AllByRecursion (λ (s : Standing V). whole ≡ false → HasDistinctNames s.members) standings

  -- what is kept of the place of what a task came to, of what is kept of those under it
  abbrev pub IsMade : Filled V → List Piece → Piece → Type 0
  IsMade filled own piece = AreApart filled.whole (map standing_behind filled.parents.items)
      → Same filled.whole (place_in piece) (place_made filled (map place_in own))

  -- the same with no tasks under it
  abbrev pub IsMadeAlone : Filled V → Piece → Type 0
  IsMadeAlone filled piece = IsMade filled [] piece

  -- the place of a task is put where it is open, of the places under it, which are taken off
  pub record IsPutOpen (kept : Kept V) (places places' : List (Option Piece)) : Type 0 where
    pub piece : Piece
    pub made : IsMade kept.filled (present (drop kept.first places)) piece
    pub puts : places' ≡ put_open piece (take kept.first places) kept.number

  module _ (answer : Call V → Answer V) where
    -- what a task came to with the answer that is due
    abbrev pub IsFilledDue : Job V → Filled V → Type 0
    IsFilledDue job filled = IsFilled job (answer job.asking.call) filled

    -- the tasks under that answer
    abbrev pub beneath_due : Job V → List (Job V)
    beneath_due job = jobs_beneath job (answer job.asking.call)

    -- the answers that are due are stored of all tasks
    abbrev pub AllHeld : List (Job V) → Store (Filled V) Piece → Type 0
    AllHeld jobs store =
        (k : ℕ) (job : Job V) → slice_get jobs k ≡ Some job
        → IsStored IsFilledDue beneath_due IsMadeAlone jobs store k

    -- the same of all from a number on
    abbrev pub AllHeldSince : ℕ → List (Job V) → Store (Filled V) Piece → Type 0
    AllHeldSince base jobs store =
        (k : ℕ) (job : Job V) → base ≤ k → slice_get jobs k ≡ Some job
        → IsStored IsFilledDue beneath_due IsMadeAlone jobs store k

    -- what is kept of a place is that of merged execution, for all levels within which the
    -- field's set nests
    abbrev pub IsRight : Job V → Piece → Type 0
    IsRight job piece = (n : ℕ) → IsWithin (setting_by job.basis) n (own_selections job.field)
        → Same (keeps_whole job.basis.grouping) (place_in piece) (place_by job.basis answer n job)

    -- each place from a number on is there, and is right
    pub record ArePlaced (base : ℕ) (jobs : List (Job V)) (places : List (Option Piece))
        : Type 0 where
      pub each : (k : ℕ) (job : Job V) (o : Option Piece) → base ≤ k → slice_get jobs k ≡ Some job
          → slice_get places k ≡ Some o → (place : Piece) × (o ≡ Some place) × IsRight job place

    -- what is kept of the root's place, of the right places of the root's tasks
    pub record IsAssembled (whole : Bool) (pos : Pos) (root : Standing V) (jobs : List (Job V))
        (piece : Piece) : Type 0 where
      pub own : List Piece
      pub right : Paired IsRight jobs own
      pub piece_is : Same whole (place_in piece)
          (root_place pos (members_with root.spot.object root.members (map place_in own)))
