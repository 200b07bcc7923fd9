-- The laws on places: a response of which each occurrence is answered apart has the places of the
-- one of which each key is answered once, and so its data, errors and header operations.
use Rattle.std.specs.Prelude.{◌≡◌, ℕ, suc, true, List, []}
use Rattle.std.specs.List.{Contains}
use Rattle.gql_base.specs.declared.pos.Pos.{Pos}
use Rattle.gql_base.specs.declared.value.Value.{Value}
use Rattle.gql_doc.specs.declared.document.Field.{Field}
use Rattle.gql_doc.specs.declared.document.Positioned.{Positioned}
use Rattle.gql_doc.specs.declared.document.Selection.{Selection}
use Rattle.gql_select.specs.Alike.{arguments_of, name_of}
use Rattle.gql_select.specs.Collected.{Setting}
use Rattle.gql_select.specs.Conflicts.{Agree, conflicts}
use Rattle.gql_select.specs.Constants.{constants, Declared}
use Rattle.gql_select.specs.Documents.{reading}
use Rattle.gql_select.specs.Grouped.{grouped, respond, serial_grouped, serial_respond}
use Rattle.gql_select.specs.Kept.{kept, kept_setting}
use Rattle.gql_select.specs.Reading.{IsReading, Reading}
use Rattle.gql_place.specs.Answered.{answering, mutating, IsAnswering}
use Rattle.gql_place.specs.Filled.{Outcome, objects_in}
use Rattle.gql_place.specs.Join.{join}
use Rattle.gql_place.specs.KeysApart.{has_keys_apart}
use Rattle.gql_place.specs.declared.place.Place.{Place}

-- places of answers: joined they are those of merged execution, where the set agrees with itself
abbrev pub PlacesApartAreMerged : (O P F X : Type 0) → Type 0
PlacesApartAreMerged O P F X =
    (reading : Reading O F X) → IsReading reading
    → (pos : F → Pos) (outcome : O → P → F → Outcome O P)
    → IsAnswering reading pos outcome
    → (n : ℕ) (o : O) (p : P) (set : List X) → Agree reading n o set set
    → respond (answering reading pos outcome) join n o p set
    ≡ grouped (answering reading pos outcome) n o p set

-- the same of a mutation, in whose worlds answers differ
abbrev pub MutationPlacesApartAreMerged : (O P F X W : Type 0) → Type 0
MutationPlacesApartAreMerged O P F X W =
    (reading : Reading O F X) → IsReading reading → (effect : W → F → W) (pos : F → Pos)
    (root outcome : W → O → P → F → Outcome O P)
    → ((world : W) → IsAnswering reading pos (root world))
    → ((world : W) → IsAnswering reading pos (outcome world))
    → (n : ℕ) (o : O) (p : P) (set : List X) (world : W) → Agree reading (suc n) o set set
    → serial_respond (mutating reading effect pos root outcome) join n o p set world
    ≡ serial_grouped (mutating reading effect pos root outcome) n o p set world

-- what a request's fields come to: an answer is asked of an object, its value, a field's name and
-- the values of its arguments
module _ {P : Type 0} (answer : List ℕ → P → List ℕ → List (List ℕ × Value) → Outcome (List ℕ) P)
  where
    -- what an occurrence comes to, by what variables stand for and which arguments its field has
    abbrev pub outcome_of : (List ℕ → Value) → (List ℕ → List ℕ → List Declared) → List ℕ → P
        → Positioned Field → Outcome (List ℕ) P
    outcome_of known declared object parent field =
        answer object parent (name_of field)
        (constants known (declared object (name_of field)) (arguments_of field))

    -- answers come to objects that are possible at the type of their field
    abbrev pub AreFitting : Setting → Type 0
    AreFitting setting =
        (object : List ℕ) (parent : P) (name : List ℕ) (arguments : List (List ℕ × Value))
        (inner : List ℕ)
        → Contains (objects_in (answer object parent name arguments).shape) inner
        → Contains (setting.beneath object name) inner

-- a place joined with itself is itself, where no object in it has a key twice
abbrev pub JoinedWithItself : Type 0
JoinedWithItself = (place : Place) → has_keys_apart place ≡ true → join place place ≡ place

-- documents: where a document has no conflicts, what is kept of it comes to the same places apart
-- and merged
abbrev pub DocumentsApartAreMerged : (P E : Type 0) → Type 0
DocumentsApartAreMerged P E =
    (known : List ℕ → Value) (setting : Setting) (declared : List ℕ → List ℕ → List Declared)
    (answer : List ℕ → P → List ℕ → List (List ℕ × Value) → Outcome (List ℕ) P)
    → AreFitting answer setting
    → (told : Positioned Field → E) (n : ℕ) (o : List ℕ) (p : P) (set : List (Positioned Selection))
    → conflicts (reading setting) told n o set ≡ []
    → respond
    (answering (reading (kept_setting known setting)) (λ f. f.pos)
    (outcome_of answer known declared)) join n o p (kept known set)
    ≡ grouped
    (answering (reading (kept_setting known setting)) (λ f. f.pos)
    (outcome_of answer known declared)) n o p (kept known set)
