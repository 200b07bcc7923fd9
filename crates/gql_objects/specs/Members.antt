-- The members of an object, of the places of those of its fields that ask an answer (GraphQL,
-- October 2021, section 6.3). Places under one key are joined.
use Rattle.std.specs.Prelude.{ℕ, true, false, List, [], ◌∷◌}
use Rattle.std.specs.List.{zip}
use Rattle.gql_base.specs.Pairs.{names_of, unite_all, values_of}
use Rattle.gql_base.specs.declared.pos.Pos.{Pos}
use Rattle.gql_base.specs.declared.value.Value.TheVariants as value
use Rattle.gql_meaning.specs.Completion.{outcome_at}
use Rattle.gql_meaning.specs.Responses.{Members}
use Rattle.gql_place.specs.Filled.{place_with}
use Rattle.gql_place.specs.Join.{join}
use Rattle.gql_place.specs.declared.place.Place.{Place}
use Rattle.gql_place.specs.declared.place.Tree.TheVariants as tree
use Rattle.gql_resolve.specs.Call.{Call}
use Rattle.gql_resolve.specs.declared.answer.Answer.{Answer}
use Rattle.gql_resolve.specs.declared.field_value.FieldValue.{FieldValue}
use Rattle.gql_schema.specs.Table.{types_of}
use Rattle.gql_objects.specs.Jobs.{Job}
use Rattle.gql_collect.specs.Levels.{Asked}
use Rattle.gql_collect.specs.declared.asks.Asks.{Asks}
use Rattle.gql_collect.specs.declared.asks.Asks.TheVariants as asks

-- the place of the name of an object, which is never null
abbrev pub typename_place : Pos → List ℕ → Place
typename_place pos object =
    record {
      pos = pos;
      non_null = true;
      added = [];
      headers = [];
      tree = tree.Leaf (value.String object);
    }

-- the place of a field that asks nothing
abbrev pub absent_place : Pos → Place
absent_place pos =
    record { pos = pos; non_null = false; added = []; headers = []; tree = tree.Absent }

-- the first of places, or an absent one
abbrev pub first_place : Pos → List Place → Place
first_place pos [] = absent_place pos
first_place pos (place ∷ places) = place

-- those after it
abbrev pub other_places : List Place → List Place
other_places [] = []
other_places (place ∷ places) = places

-- the place of a field of an object, of the places of those that ask an answer
abbrev pub place_of : List ℕ → Pos → Asks → List Place → Place
place_of object pos asks.Typename places = typename_place pos object
place_of object pos asks.Nothing places = absent_place pos
place_of object pos (asks.Call resolver ty arguments) places = first_place pos places

-- the places that a field leaves
abbrev pub places_behind : Asks → List Place → List Place
places_behind asks.Typename places = places
places_behind asks.Nothing places = places
places_behind (asks.Call resolver ty arguments) places = other_places places

-- the places of all fields of an object
abbrev pub places_with : List ℕ → List Asked → List Place → List Place
places_with object [] places = []
places_with object (asked ∷ others) places =
    place_of object asked.field.pos asked.asks places
    ∷ places_with object others (places_behind asked.asks places)

-- the places that all of them leave
abbrev pub places_behind_all : List Asked → List Place → List Place
places_behind_all [] places = places
places_behind_all (asked ∷ others) places =
    places_behind_all others (places_behind asked.asks places)

-- places under their keys, those under one key joined
abbrev pub united_members : List (List ℕ) → List Place → Members
united_members names places = unite_all join [] (zip names places)

-- the members of an object
abbrev pub members_with : List ℕ → List (List ℕ × Asked) → List Place → Members
members_with object members places =
    united_members (names_of members) (places_with object (values_of members) places)

-- the place of a task with these answers, and with what is under the objects of its field
abbrev pub place_of_job : {V : Type 0} → (Call V → Answer V) → (List ℕ → FieldValue V → Members)
    → Job V → Place
place_of_job answer below job =
    place_with job.field.pos
    (outcome_at (types_of job.basis.types.now) job.asking.ty (answer job.asking.call)) below
