-- The responses to queries and mutations (GraphQL, October 2021, sections 6.2 to 6.4): merged
-- execution, in which each key of a set is answered once, and apart execution, in which each
-- occurrence is, and places under one key are joined. Both are said of the operation as it is
-- written.
use Rattle.std.specs.Prelude.{ℕ, zero, suc, Bool, true, false, List, [], Option, Some, None, is_some}
use Rattle.std.specs.Prelude.{filter, take}
use Rattle.gql_base.specs.declared.pos.Pos.{Pos}
use Rattle.gql_doc.specs.declared.document.Field.{Field}
use Rattle.gql_doc.specs.declared.document.Positioned.{Positioned}
use Rattle.gql_doc.specs.declared.document.Selection.{Selection}
use Rattle.gql_collect.specs.DeclaredFields.{declared_reading}
use Rattle.gql_collect.specs.Execution.{Asking, Execution, field_asking, setting_in}
use Rattle.gql_meaning.specs.Outcomes.{field_outcome}
use Rattle.gql_meaning.specs.PlaceResponse.{response_at}
use Rattle.gql_meaning.specs.Served.{Served}
use Rattle.gql_place.specs.Answered.{answered}
use Rattle.gql_place.specs.Join.{join}
use Rattle.gql_place.specs.declared.place.Place.{Place}
use Rattle.gql_place.specs.declared.place.Tree.TheVariants as tree
use Rattle.gql_request.specs.declared.response.Response.{Response}
use Rattle.gql_resolve.specs.Call.{Call}
use Rattle.gql_resolve.specs.declared.answer.Answer.{Answer}
use Rattle.gql_resolve.specs.declared.field_value.FieldValue.{FieldValue}
use Rattle.gql_select.specs.Grouped.{Beneath, grouped, Mutating, Placing, respond}
use Rattle.gql_select.specs.Grouped.{serial_grouped, serial_respond, world_behind}
use Rattle.gql_select.specs.Kept.{kept, kept_setting}
use Rattle.gql_select.specs.Reading.{merged, Reading}

-- the members of an object's place, under their keys
abbrev pub Members : Type 0
Members = List (List ℕ × Place)

-- what an operation asks for: the object at its root and the root's value, and the selections as
-- they are written
pub record Asked (V : Type 0) : Type 0 where
  pub object : List ℕ
  pub parent : FieldValue V
  pub selections : List (Positioned Selection)

-- an operation that is executed, as it is written: what its execution knows, whether it is a
-- mutation, where it stands, and what it asks for
pub record Written (V : Type 0) : Type 0 where
  pub execution : Execution
  pub mutates : Bool
  pub pos : Pos
  pub asked : Asked V

-- what is left of the selections is read by what is left of the document; a field that its object
-- doesn't declare is no occurrence
abbrev pub kept_reading : Execution → Reading (List ℕ) (Positioned Field) (Positioned Selection)
kept_reading execution =
    declared_reading execution (kept_setting execution.known (setting_in execution))

-- what `@skip` and `@include` leave of the selections
abbrev pub kept_in : {V : Type 0} → Execution → Asked V → List (Positioned Selection)
kept_in execution asked = kept execution.known asked.selections

-- how many of so many levels of sets stand under the root's
abbrev pub levels_beneath : ℕ → ℕ
levels_beneath zero = zero
levels_beneath (suc n) = n

-- the place of a whole response: its data may be null
abbrev pub root_place : Pos → Members → Place
root_place pos members =
    record { pos = pos; non_null = false; added = []; headers = []; tree = tree.Object members }

module _ {V : Type 0} (execution : Execution) where
  -- the place of an occurrence with an answer of its own, given what is under its objects
  abbrev pub placed : Bool → (Call V → Answer V) → List ℕ → FieldValue V → Positioned Field
      → Beneath (List ℕ) (FieldValue V) Place → Place
  placed is_root answer = answered (λ field. field.pos) (field_outcome is_root execution answer)

  -- what an occurrence at the root of a mutation asks
  abbrev pub root_asking : Asked V → Positioned Field → Option (Asking V)
  root_asking asked field = field_asking true execution asked.object asked.parent field

  -- the root keys in their order, each merged over its occurrences
  abbrev pub root_keys : Asked V → List (List ℕ × Positioned Field)
  root_keys asked = merged (kept_reading execution)
      ((kept_reading execution).fields asked.object (kept_in execution asked))

  -- the root keys that ask an answer
  abbrev pub asking_keys : Asked V → List (List ℕ × Positioned Field)
  asking_keys asked = filter (λ key. is_some (root_asking asked key.1)) (root_keys asked)

  module _ {W : Type 0} (effect : Call V → W → W) where
    -- the world that what is asked, if anything, leaves
    abbrev pub world_of : W → Option (Asking V) → W
    world_of world None = world
    world_of world (Some asking) = effect asking.call world

    -- the world that a root key leaves; one that asks nothing leaves it as it was
    abbrev pub world_after : Asked V → W → Positioned Field → W
    world_after asked world field = world_of world (root_asking asked field)

module _ {V W : Type 0} (served : Served V W) (written : Written V) where
  -- how the fields of a query become places, by the answers in the world in which it begins
  abbrev pub placing : Placing (List ℕ) (FieldValue V) (Positioned Field) (Positioned Selection)
      Place
  placing = record {
    reading = kept_reading written.execution;
    place = placed written.execution false (λ call. served.answer call served.world);
  }

  -- how a mutation is answered: the root in each world, and what is under it
  abbrev pub mutating : Mutating (List ℕ) (FieldValue V) (Positioned Field) (Positioned Selection)
      Place W
  mutating = record {
    reading = kept_reading written.execution;
    effect = world_after written.execution served.effect written.asked;
    root = λ world. placed written.execution true (λ call. served.answer call world);
    place = λ world. placed written.execution false (λ call. served.answer call world);
  }

  -- the members of the root by merged execution. ExecuteQuery: each key is answered once.
  -- ExecuteMutation: the root keys are answered one after another, each in the world that those
  -- before it left
  abbrev pub merged_by : (mutates : Bool) → Members
  merged_by false = grouped placing written.execution.levels written.asked.object
      written.asked.parent (kept_in written.execution written.asked)
  merged_by true =
      serial_grouped mutating (levels_beneath written.execution.levels) written.asked.object
      written.asked.parent (kept_in written.execution written.asked) served.world

  -- the same by apart execution: each occurrence is answered apart, of a mutation each below the
  -- root
  abbrev pub apart_by : (mutates : Bool) → Members
  apart_by false = respond placing join written.execution.levels written.asked.object
      written.asked.parent (kept_in written.execution written.asked)
  apart_by true =
      serial_respond mutating join (levels_beneath written.execution.levels) written.asked.object
      written.asked.parent (kept_in written.execution written.asked) served.world

  -- the world after so many root keys of a mutation; a query leaves the world as it was
  abbrev pub world_by : (mutates : Bool) → List (List ℕ × Positioned Field) → W
  world_by false keys = served.world
  world_by true keys = world_behind mutating.effect served.world keys

  -- the place of the whole response
  abbrev pub place_merged : Place
  place_merged = root_place written.pos (merged_by written.mutates)

  -- the same by apart execution
  abbrev pub place_apart : Place
  place_apart = root_place written.pos (apart_by written.mutates)

  -- the response of merged execution
  abbrev pub response_merged : Response
  response_merged = response_at place_merged

  -- that of apart execution
  abbrev pub response_apart : Response
  response_apart = response_at place_apart

  -- the world after the whole operation
  abbrev pub world_left : W
  world_left = world_by written.mutates (root_keys written.execution written.asked)

  -- the world after so many of its root keys that ask an answer
  abbrev pub world_left_by : ℕ → W
  world_left_by count =
      world_by written.mutates (take count (asking_keys written.execution written.asked))
