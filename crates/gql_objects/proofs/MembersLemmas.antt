-- The members of an object are those that its fields come to.
use Rattle.std.proofs.Common.{rules, ◌≡◌, ℕ, suc, true, false, length, List, [], ◌∷◌, ◌++◌, map, refl, ap, sym, ◌∙◌}
use Rattle.std.specs.declared.alloc.Global.{Global}
use Rattle.std.specs.declared.rc.Rc.{Rc}
use Rattle.std.specs.List.{zip}
use Rattle.gql_base.specs.Pairs.{names_of, unite_all, values_of}
use Rattle.gql_base.specs.declared.pos.Pos.{Pos}
use Rattle.gql_base.specs.declared.value.Value.{Value}
use Rattle.gql_base.specs.declared.value.Value.TheVariants as value
use Rattle.gql_doc.specs.declared.document.Field.{Field}
use Rattle.gql_doc.specs.declared.document.Positioned.{Positioned}
use Rattle.gql_meaning.specs.Outcomes.{field_outcome}
use Rattle.gql_meaning.specs.Responses.{Members}
use Rattle.gql_place.specs.Filled.{fill, place_with}
use Rattle.gql_place.specs.Join.{join}
use Rattle.gql_place.specs.declared.place.Place.{Place}
use Rattle.gql_place.specs.declared.place.Tree.TheVariants as tree
use Rattle.gql_place.specs.declared.shape.Shape.{the_lemmas}
use Rattle.gql_place.specs.declared.shape.Shape.TheVariants as shape
use Rattle.gql_resolve.specs.Call.{Call}
use Rattle.gql_resolve.specs.Layers.{layers_of}
use Rattle.gql_resolve.specs.declared.answer.Answer.{Answer}
use Rattle.gql_resolve.specs.declared.field_value.FieldValue.{FieldValue}
use Rattle.gql_select.specs.Reading.{over}
use Rattle.gql_collect.specs.Asks.{asking_by, asks_of}
use Rattle.gql_objects.specs.Outcomes.{outcome_by}
use Rattle.gql_objects.specs.Members.{members_with, place_of_job, places_behind, places_behind_all, places_with}
use Rattle.gql_collect.specs.Basis.{execution_of}
use Rattle.gql_objects.specs.Jobs.{Job, job_of, jobs_by}
use Rattle.gql_collect.specs.Levels.{Asked, asked_behind, asked_on}
use Rattle.gql_complete.specs.FoundObjects.{Spot}
use Rattle.gql_collect.specs.declared.asks.Asks.{Asks}
use Rattle.gql_collect.specs.declared.asks.Asks.TheVariants as asks
use Rattle.gql_collect.specs.declared.basis.Basis.{Basis}
use Rattle.gql_collect.specs.declared.level.Node.{Node}
use Rattle.gql_objects.proofs.OutcomeLemmas.{outcome_is}

-- the places of an object's fields under their keys, of the places of those that ask an answer
abbrev pub places_under : List ℕ → List (List ℕ × Asked) → List Place → Members
places_under object members places = zip (names_of members) (places_with object (values_of members) places)

module _ {V : Type 0} where
  pub fill-Leaf : (pos : Pos) (below : List ℕ → FieldValue V → Members) (leaf : Value) → fill pos below (shape.Leaf leaf) ≡ tree.Leaf leaf
  fill-Leaf pos below leaf = search (rules, the_lemmas)

  pub fill-Absent : (pos : Pos) (below : List ℕ → FieldValue V → Members) → fill pos below shape.Absent ≡ tree.Absent
  fill-Absent pos below = search (rules, the_lemmas)

  module _ (basis : Basis) (answer : Call V → Answer V) (spot : Spot V)
      (below : Positioned Field → List ℕ → FieldValue V → Members) where
    -- the place of a task, with what is under its field
    abbrev placed : Job V → Place
    placed job = place_of_job answer (below job.field) job

    -- what a field comes to
    abbrev comes : Positioned Field → Place
    comes field = place_with field.pos (field_outcome false (execution_of basis) answer spot.object spot.parent field) (below field)

    -- the same, by what it asks
    abbrev by_asks : Positioned Field → Asks → Place
    by_asks field a = place_with field.pos (outcome_by false (execution_of basis) answer spot.object spot.parent a) (below field)

    abbrev own_jobs : Positioned Field → Asks → List (Job V)
    own_jobs field a = job_of basis spot field (asking_by false (layers_of basis.layers) spot.parent a)

    one_more : (key : List ℕ) (field : Positioned Field) (a : Asks) (members : List (List ℕ × Asked)) (jobs : List (Job V))
        (rest : List Place) (all : Members)
        → places_under spot.object members (map placed jobs ++ rest) ≡ all
        → places_under spot.object ((key, record { basis = basis; field = field; asks = a }) ∷ members)
        (map placed (own_jobs field a ++ jobs) ++ rest)
        ≡ (key, by_asks field a) ∷ all
    one_more key field asks.Typename members jobs rest all is =
        λ i. (
          key,
          record {
            pos = field.pos;
            non_null = true;
            added = [];
            headers = [];
            tree = sym
                (fill-Leaf field.pos (below field) (value.String spot.object)) i;
          },
        ) ∷ is i
    one_more key field asks.Nothing members jobs rest all is =
        λ i. (
          key,
          record {
            pos = field.pos;
            non_null = false;
            added = [];
            headers = [];
            tree = sym (fill-Absent field.pos (below field))
                i;
          },
        ) ∷ is i
    one_more key field (asks.Call resolver ty arguments) members jobs rest all is =
        λ i. (
          key,
          place_with field.pos (outcome_by false (execution_of basis) answer spot.object spot.parent
              (asks.Call resolver ty arguments)) (below field),
        ) ∷ is i

    -- the places of an object's fields under their keys, with those of its tasks
    places_are : (fields : List (List ℕ × Positioned Field)) (rest : List Place)
        → places_under spot.object (asked_on basis spot.object fields)
        (map placed (jobs_by spot (values_of (asked_on basis spot.object fields))) ++ rest)
        ≡ over comes fields
    places_are [] rest = refl
    places_are (field ∷ fields) rest =
        one_more field.0 field.1 (asks_of (execution_of basis) spot.object field.1) (asked_on basis spot.object fields)
        (jobs_by spot (values_of (asked_on basis spot.object fields))) rest (over comes fields) (places_are fields rest)
        ∙ (λ i. (
          field.0,
          place_with field.1.pos (sym (outcome_is false (execution_of basis) spot.parent answer spot.object field.1) i)
              (below field.1),
        ) ∷ over comes fields)

    -- the members of an object, with the places of its tasks
    pub members_are : (fields : List (List ℕ × Positioned Field)) (rest : List Place)
        → members_with spot.object (asked_on basis spot.object fields)
        (map placed (jobs_by spot (values_of (asked_on basis spot.object fields))) ++ rest)
        ≡ unite_all join [] (over comes fields)
    members_are fields rest = ap (unite_all join []) (places_are fields rest)

module _ {V : Type 0} (basis : Basis) (spot : Spot V) (place : Job V → Place) where
  left_one : (field : Positioned Field) (a : Asks) (jobs : List (Job V)) (rest : List Place)
      → places_behind a (map place (job_of basis spot field (asking_by false (layers_of basis.layers) spot.parent a) ++ jobs) ++ rest)
      ≡ map place jobs ++ rest
  left_one field asks.Typename jobs rest = refl
  left_one field asks.Nothing jobs rest = refl
  left_one field (asks.Call resolver ty arguments) jobs rest = refl

  -- the places after those of the tasks of an object are left
  pub places_left : (fields : List (List ℕ × Positioned Field)) (rest : List Place)
      → places_behind_all (values_of (asked_on basis spot.object fields))
      (map place (jobs_by spot (values_of (asked_on basis spot.object fields))) ++ rest) ≡ rest
  places_left [] rest = refl
  places_left (field ∷ fields) rest =
      ap (places_behind_all (values_of (asked_on basis spot.object fields)))
      (left_one field.1 (asks_of (execution_of basis) spot.object field.1) (jobs_by spot (values_of (asked_on basis spot.object fields)))
      rest)
      ∙ places_left fields rest

-- each field has a place
pub places_long : (object : List ℕ) (fields : List Asked) (places : List Place) → length (places_with object fields places) ≡ length fields
places_long object [] places = refl
places_long object (field ∷ fields) places = ap suc (places_long object fields (places_behind field.asks places))

pub nodes_long : (nodes : List (Rc Node Global)) → length (map asked_behind nodes) ≡ length nodes
nodes_long [] = refl
nodes_long (node ∷ nodes) = ap suc (nodes_long nodes)
