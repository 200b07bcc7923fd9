-- The execution of a mutation: its root keys one after another, each merged over its occurrences
-- (GraphQL, October 2021, sections 6.2.2 and 6.3.1). Under them each key is answered once by
-- merged execution, and each occurrence by apart execution.
use Rattle.std.specs.Prelude.{◌≡◌, ℕ, true, false, List, [], ◌∷◌, Option, Some}
use Rattle.gql_doc.specs.declared.document.Field.{Field}
use Rattle.gql_doc.specs.declared.document.Positioned.{Positioned}
use Rattle.gql_doc.specs.declared.document.Selection.{Selection}
use Rattle.gql_tasks.specs.Arena.{Work}
use Rattle.gql_tasks.specs.Phases.{answer_between, Serving}
use Rattle.gql_engine.specs.declared.scene.Scene.{Scene}
use Rattle.gql_meaning.specs.Responses.{Asked, levels_beneath, Members, placed, world_after}
use Rattle.gql_place.specs.Join.{join}
use Rattle.gql_place.specs.declared.piece.Piece.{Piece}
use Rattle.gql_place.specs.declared.place.Place.{Place}
use Rattle.gql_resolve.specs.Call.{Call}
use Rattle.gql_resolve.specs.declared.answer.Answer.{Answer}
use Rattle.gql_resolve.specs.declared.field_value.FieldValue.{FieldValue}
use Rattle.gql_select.specs.Collected.{own_selections}
use Rattle.gql_select.specs.Grouped.{in_turn, Mutating, serial_grouped, serial_respond, world_behind}
use Rattle.gql_select.specs.Reading.{merged}
use Rattle.gql_objects.specs.Assembly.{IsRight}
use Rattle.gql_collect.specs.Basis.{execution_of}
use Rattle.gql_collect.specs.GroupFields.{groups_in}
use Rattle.gql_objects.specs.Jobs.{Job, jobs_at_as}
use Rattle.gql_objects.specs.ExecuteSelectionSet.{members_by}
use Rattle.gql_engine.specs.ExecuteQuery.{basis_by, basis_of, job_subject, place_at_root, root_selections}
use Rattle.gql_engine.specs.ExecuteQuery.{reading_in, root_spot}
use Rattle.gql_collect.specs.declared.basis.Grouping.{Grouping}
use Rattle.gql_collect.specs.declared.basis.Grouping.TheVariants as grouping

module _ {V : Type 0} (by : Grouping) (scene : Scene V) where
  -- the tasks of the root keys that ask an answer, in their order
  abbrev pub key_jobs_by : List (Job V)
  key_jobs_by = jobs_at_as true (basis_by by scene) (root_selections scene) (root_spot scene)

  -- what the execution has to do, one of these after another
  abbrev pub key_work_by : Work V (Job V)
  key_work_by = record { subject = job_subject; first = key_jobs_by }

  -- the root keys in their order, each merged over its occurrences as they are collected
  abbrev pub keys_by : List (List ℕ × Positioned Field)
  keys_by =
      groups_in true (basis_by by scene) (root_spot scene).object (root_selections scene)

module _ {V : Type 0} (scene : Scene V) where
  -- the tasks of the root keys in merged execution
  abbrev pub key_jobs : List (Job V)
  key_jobs = key_jobs_by grouping.ByKey scene

  -- what merged execution has to do
  abbrev pub key_work : Work V (Job V)
  key_work = key_work_by grouping.ByKey scene

  -- before the first root key no task is made
  abbrev pub no_jobs : List (Job V)
  no_jobs = []

  -- what the operation asks for
  abbrev pub root_asked : Asked V
  root_asked = record {
    object = (root_spot scene).object;
    parent = (root_spot scene).parent;
    selections = root_selections scene;
  }

  -- the root keys in their order, each merged over all its occurrences
  abbrev pub keys_of : List (List ℕ × Positioned Field)
  keys_of = merged (reading_in scene)
      ((reading_in scene).fields (root_spot scene).object (root_selections scene))

  module _ {W : Type 0} (answer : Call V → W → Answer V) (effect : Call V → W → W) where
    -- how the mutation is answered: each root key in a world, and what is under it in the world
    -- that it leaves
    abbrev pub answering : Mutating (List ℕ) (FieldValue V) (Positioned Field)
        (Positioned Selection) Place W
    answering = record {
      reading = reading_in scene;
      effect = world_after (execution_of (basis_of scene)) effect root_asked;
      root = λ world. placed (execution_of (basis_of scene)) true (λ call. answer call world);
      place = λ world. placed (execution_of (basis_of scene)) false (λ call. answer call world);
    }

    -- the members of the root by merged execution, so many levels of sets deep
    abbrev pub serial_members : W → ℕ → Members
    serial_members world n = serial_grouped answering (levels_beneath n) (root_spot scene).object
        (root_spot scene).parent (root_selections scene) world

    -- the place of the whole response
    abbrev pub serial_response : W → ℕ → Place
    serial_response world n = place_at_root scene (serial_members world n)

    -- the same by apart execution
    abbrev pub serial_apart_response : W → ℕ → Place
    serial_apart_response world n =
        place_at_root scene
        (serial_respond answering join (levels_beneath n) (root_spot scene).object
        (root_spot scene).parent (root_selections scene) world)

    -- the members of the root, where occurrences under it are grouped so
    abbrev pub serial_members_by : Grouping → W → ℕ → Members
    serial_members_by by world n =
        in_turn answering.effect
        (λ before behind field. answering.root before (root_spot scene).object
        (root_spot scene).parent field (λ object parent. members_by (basis_by by scene)
        (λ call. answer call behind) (levels_beneath n) object parent (own_selections field)))
        world (keys_by by scene)

    -- the place of the whole response
    abbrev pub serial_response_by : Grouping → W → ℕ → Place
    serial_response_by by world n = place_at_root scene (serial_members_by by world n)

  -- the world after all root keys
  abbrev pub last_world_of : {W : Type 0} → (Call V → W → W) → W → W
  last_world_of effect world =
      world_behind (world_after (execution_of (basis_of scene)) effect root_asked) world keys_of

-- the places of root keys, one after another: each is right by the answers of its own phase
module _ {V W : Type 0} (serving : Serving V W) where
  -- in the phase of a root key that is asked in a world
  abbrev pub answer_in_phase : W → Job V → Call V → Answer V
  answer_in_phase world root =
      answer_between serving.answer world (serving.effect root.asking.call world)

  -- all of them, the first in this world
  abbrev pub PlacedInTurn : W → List (Job V) → List (Option Piece) → Type 0
  PlacedInTurn world [] [] = Unit {0}
  PlacedInTurn world [] (o ∷ os) = ⊥
  PlacedInTurn world (root ∷ roots) [] = ⊥
  PlacedInTurn world (root ∷ roots) (o ∷ os) =
      ((place : Piece) × (o ≡ Some place) × IsRight (answer_in_phase world root) root place)
      × PlacedInTurn (serving.effect root.asking.call world) roots os
