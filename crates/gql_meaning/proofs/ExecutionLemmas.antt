-- What fields ask and come to.
use Rattle.std.proofs.Common.{rules, ◌≡◌, ℕ, zero, suc, ◌+◌, ◌||◌, Bool, true, false, cond, List, [], ◌∷◌, map, filter, is_some, Option, Some, None, refl, ap, sym, ◌∙◌}
use Rattle.std.specs.Prelude.{option_and_then}
use Rattle.std.specs.List.{Contains}
use Rattle.gql_base.specs.Pairs.{values_of}
use Rattle.gql_base.specs.declared.value.Value.{Value}
use Rattle.gql_base.specs.declared.value.Value.TheVariants as value
use Rattle.gql_doc.specs.declared.document.Field.{Field}
use Rattle.gql_doc.specs.declared.document.Positioned.{Positioned}
use Rattle.gql_doc.specs.declared.document.Selection.{Selection}
use Rattle.gql_meaning.proofs.CompletionLemmas.{absent_fits, leaf_fits, shape_fits}
use Rattle.gql_meaning.specs.Counted.{count_as, one_if, parents_in, total}
use Rattle.gql_meaning.specs.Outcomes.{answered_outcome, field_outcome, named_outcome, typename_outcome}
use Rattle.gql_collect.specs.Execution.{asking, asking_at, Asking, Execution, is_typename, setting_in}
use Rattle.gql_meaning.specs.Responses.{Asked, kept_in, kept_reading, placed, root_asking, world_after, world_of}
use Rattle.gql_place.specs.declared.place.Place.{Place}
use Rattle.gql_collect.specs.TableSetting.{declared_arguments, field_in, objects_of}
use Rattle.gql_place.specs.Answered.{answered, answering}
use Rattle.gql_place.specs.Filled.{objects_in}
use Rattle.gql_place.specs.Laws.{AreFitting}
use Rattle.gql_place.specs.declared.shape.Shape.{the_lemmas}
use Rattle.gql_place.specs.declared.shape.Shape.TheVariants as shape
use Rattle.gql_resolve.specs.Call.{Call}
use Rattle.gql_resolve.specs.declared.answer.Answer.{Answer}
use Rattle.gql_resolve.specs.declared.field_value.FieldValue.{FieldValue}
use Rattle.gql_schema.specs.TableReading.{Declared}
use Rattle.gql_select.specs.Alike.{arguments_of, name_of}
use Rattle.gql_select.specs.Constants.{constants}
use Rattle.gql_select.specs.Grouped.{grouped, in_turn, Placing, world_behind}
use Rattle.gql_select.specs.Reading.{merged, over}

module _ {V : Type 0} (is_root : Bool) (execution : Execution) (answer : Call V → Answer V) where
  -- what a field comes to has objects alone that are possible under it
  number_fits : (declared : Declared) (parent : FieldValue V) (arguments : List (List ℕ × Value)) (number : Option ℕ) (inner : List ℕ)
      → Contains (objects_in (answered_outcome is_root execution answer (asking_at is_root execution parent arguments (record declared { number = number }))).shape) inner
      → Contains (objects_of execution.schema.table (Some declared)) inner
  number_fits declared parent arguments None inner at = absent_fits V (objects_of execution.schema.table (Some declared)) inner at
  number_fits declared parent arguments (Some resolver) inner at = shape_fits V execution.schema.table declared.ty _ inner at

  found_fits : (found : Option Declared) (parent : FieldValue V) (arguments : List (List ℕ × Value)) (inner : List ℕ)
      → Contains (objects_in (answered_outcome is_root execution answer (option_and_then (asking_at is_root execution parent arguments) found)).shape) inner
      → Contains (objects_of execution.schema.table found) inner
  found_fits None parent arguments inner at = absent_fits V [] inner at
  found_fits (Some declared) parent arguments inner at = number_fits declared parent arguments declared.number inner at

  tested_fits : (nothing : Bool) (found : Option Declared) (parent : FieldValue V) (arguments : List (List ℕ × Value)) (inner : List ℕ)
      → Contains (objects_in (answered_outcome is_root execution answer (cond nothing None (option_and_then (asking_at is_root execution parent arguments) found))).shape) inner
      → Contains (objects_of execution.schema.table found) inner
  tested_fits true found parent arguments inner at = absent_fits V (objects_of execution.schema.table found) inner at
  tested_fits false found parent arguments inner at = found_fits found parent arguments inner at

  named_fits : (is_name : Bool) (object : List ℕ) (asked : Option (Asking V)) (objects : List (List ℕ)) (inner : List ℕ)
      → ((inner : List ℕ) → Contains (objects_in (answered_outcome is_root execution answer asked).shape) inner → Contains objects inner)
      → Contains (objects_in (cond is_name (typename_outcome object) (answered_outcome is_root execution answer asked)).shape) inner
      → Contains objects inner
  named_fits true object asked objects inner otherwise at = leaf_fits V objects (value.String object) inner at
  named_fits false object asked objects inner otherwise at = otherwise inner at

  pub are_fitting : AreFitting (named_outcome is_root execution answer) (setting_in execution)
  are_fitting = λ object parent name arguments inner at.
      named_fits (is_typename name) object (asking is_root execution object parent name arguments) (objects_of execution.schema.table (field_in execution.schema object name)) inner
      (λ inner' at'. tested_fits (execution.only_introspection || is_typename name) (field_in execution.schema object name) parent arguments inner' at') at

-- A chain of worlds.

module _ {F W A : Type 0} (step : W → Option A → W) (nothing : (w : W) → step w None ≡ w) (asks : F → Option A) where
  one_past : (m : List ℕ × F) (ms : List (List ℕ × F)) (asked : Option A) (world : W)
      → world_behind (λ w f. step w (asks f)) (step world asked) ms ≡ world_behind (λ w f. step w (asks f)) (step world asked) (filter (λ m. is_some (asks m.1)) ms)
      → asks m.1 ≡ asked
      → world_behind (λ w f. step w (asks f)) (step world asked) ms
      ≡ world_behind (λ w f. step w (asks f)) world (cond (is_some asked) (m ∷ filter (λ m. is_some (asks m.1)) ms) (filter (λ m. is_some (asks m.1)) ms))
  one_past m ms None world rest is = rest ∙ ap (λ w. world_behind (λ w f. step w (asks f)) w (filter (λ m. is_some (asks m.1)) ms)) (nothing world)
  one_past m ms (Some asked) world rest is =
      rest ∙ sym (ap (λ a. world_behind (λ w f. step w (asks f)) (step world a) (filter (λ m. is_some (asks m.1)) ms)) is)

  pub only_asking : (ms : List (List ℕ × F)) (world : W)
      → world_behind (λ w f. step w (asks f)) world ms ≡ world_behind (λ w f. step w (asks f)) world (filter (λ m. is_some (asks m.1)) ms)
  only_asking [] world = refl
  only_asking (m ∷ ms) world = one_past m ms (asks m.1) world (only_asking ms (step world (asks m.1))) refl

-- Introspection-only mode.

parents-Absent : {O P : Type 0} → parents_in {O = O} {P = P} shape.Absent ≡ []
parents-Absent = search (rules, the_lemmas)

parents-Leaf : {O P : Type 0} (leaf : Value) → parents_in {O = O} {P = P} (shape.Leaf leaf) ≡ []
parents-Leaf leaf = search (rules, the_lemmas)

or_true : (a b : Bool) → a ≡ true → (a || b) ≡ true
or_true true b h = refl
or_true false b h = absurd (cc)

module _ {V : Type 0} (execution : Execution) (answer : Call V → Answer V) (only : execution.only_introspection ≡ true) where
  nothing_asked : (is_root : Bool) (object : List ℕ) (parent : FieldValue V) (name : List ℕ) (arguments : List (List ℕ × Value))
      → asking is_root execution object parent name arguments ≡ None
  nothing_asked is_root object parent name arguments = rw (or_true execution.only_introspection (is_typename name) only) refl

  none_beneath : (is_root is_name : Bool) (object : List ℕ) (asked : Option (Asking V)) → asked ≡ None
      → parents_in (cond is_name (typename_outcome object) (answered_outcome is_root execution answer asked)).shape ≡ []
  none_beneath is_root true object asked none = parents-Leaf (value.String object)
  none_beneath is_root false object asked none =
      ap (λ a. parents_in (answered_outcome is_root execution answer a).shape) none ∙ parents-Absent

  nothing_counted : (is_root : Bool) (object : List ℕ) (parent : FieldValue V) (f : Positioned Field) (below : List ℕ → FieldValue V → List (List ℕ × ℕ))
      → count_as execution answer is_root object parent f below ≡ 0
  nothing_counted is_root object parent f below =
      let arguments : List (List ℕ × Value) = constants execution.known (declared_arguments execution.schema object (name_of f)) (arguments_of f) in
      let none : asking is_root execution object parent (name_of f) arguments ≡ None = nothing_asked is_root object parent (name_of f) arguments in
      let beneath : parents_in (named_outcome is_root execution answer object parent (name_of f) arguments).shape ≡ []
      = none_beneath is_root (is_typename (name_of f)) object (asking is_root execution object parent (name_of f) arguments) none in
      λ i. one_if (none i) + total (map (λ inner. total (values_of (below inner.0 inner.1))) (beneath i))

  none_in_all : (object : List ℕ) (parent : FieldValue V) (below : Positioned Field → List ℕ → FieldValue V → List (List ℕ × ℕ)) (ms : List (List ℕ × Positioned Field))
      → total (values_of (over (λ f. count_as execution answer false object parent f (below f)) ms)) ≡ 0
  none_in_all object parent below [] = refl
  none_in_all object parent below (m ∷ ms) =
      λ i. nothing_counted false object parent m.1 (below m.1) i + none_in_all object parent below ms i

  -- fields as numbers
  abbrev numbers : Placing (List ℕ) (FieldValue V) (Positioned Field) (Positioned Selection) ℕ
  numbers = record { reading = kept_reading execution; place = count_as execution answer false }

  pub asks_nothing : (levels : ℕ) (asked : Asked V) → total (values_of (grouped numbers levels asked.object asked.parent (kept_in execution asked))) ≡ 0
  asks_nothing zero asked = refl
  asks_nothing (suc levels) asked =
      none_in_all asked.object asked.parent (λ f inner parent. grouped numbers levels inner parent ((kept_reading execution).set f))
      (merged (kept_reading execution) ((kept_reading execution).fields asked.object (kept_in execution asked)))

  -- two functions of answers give a field the same outcome
  outcomes_same : (other : Call V → Answer V) (is_root : Bool) (object : List ℕ) (parent : FieldValue V) (f : Positioned Field)
      → field_outcome is_root execution answer object parent f ≡ field_outcome is_root execution other object parent f
  outcomes_same other is_root object parent f =
      let arguments : List (List ℕ × Value) = constants execution.known (declared_arguments execution.schema object (name_of f)) (arguments_of f) in
      let none : asking is_root execution object parent (name_of f) arguments ≡ None = nothing_asked is_root object parent (name_of f) arguments in
      ap (λ a. cond (is_typename (name_of f)) (typename_outcome object) (answered_outcome is_root execution answer a)) none
      ∙ sym (ap (λ a. cond (is_typename (name_of f)) (typename_outcome object) (answered_outcome is_root execution other a)) none)

  pub needs_no_answer : (other : Call V → Answer V) (levels : ℕ) (asked : Asked V)
      → grouped (answering (kept_reading execution) (λ field. field.pos) (field_outcome false execution answer)) levels asked.object asked.parent (kept_in execution asked)
      ≡ grouped (answering (kept_reading execution) (λ field. field.pos) (field_outcome false execution other)) levels asked.object asked.parent (kept_in execution asked)
  needs_no_answer other levels asked =
      λ i. grouped
      (answering (kept_reading execution) (λ field. field.pos) (λ object parent field. outcomes_same other false object parent field i)) levels
      asked.object asked.parent (kept_in execution asked)

-- The same of root keys, one after another.

module _ {V W : Type 0} (execution : Execution) (answer : Call V → W → Answer V) (effect : W → Positioned Field → W) (object : List ℕ) (parent : FieldValue V)
    (only : execution.only_introspection ≡ true) where
  pub asks_nothing_in_turn : (below : W → Positioned Field → List ℕ → FieldValue V → List (List ℕ × ℕ)) (ms : List (List ℕ × Positioned Field)) (world : W)
      → total (values_of (in_turn effect (λ before behind f. count_as execution (λ call. answer call before) true object parent f (below behind f)) world ms)) ≡ 0
  asks_nothing_in_turn below [] world = refl
  asks_nothing_in_turn below (m ∷ ms) world =
      λ i. nothing_counted execution (λ call. answer call world) only true object parent m.1 (below (effect world m.1) m.1) i
      + asks_nothing_in_turn below ms (effect world m.1) i

  -- the place of a root key with what is under it, so many levels deep
  abbrev key_place : (Call V → W → Answer V) → ℕ → W → W → Positioned Field → Place
  key_place answers levels before behind f =
      placed execution true (λ call. answers call before) object parent f
      (λ inner value. grouped (answering (kept_reading execution) (λ field. field.pos) (field_outcome false execution (λ call. answers call behind))) levels inner value
      ((kept_reading execution).set f))

  pub needs_no_answer_in_turn : (other : Call V → W → Answer V) (changes : W → Positioned Field → W) (levels : ℕ) (ms : List (List ℕ × Positioned Field)) (here there : W)
      → in_turn effect (key_place answer levels) here ms ≡ in_turn changes (key_place other levels) there ms
  needs_no_answer_in_turn other changes levels [] here there = refl
  needs_no_answer_in_turn other changes levels (m ∷ ms) here there =
      let behind = effect here m.1 in
      let past = changes there m.1 in
      λ i. (
        m.0,
        answered (λ (field : Positioned Field). field.pos)
            (λ o p f. outcomes_same execution (λ call. answer call here) only (λ call. other call there) true o p f i) object parent m.1
            (λ inner value. grouped (answering (kept_reading execution) (λ field. field.pos)
            (λ o p f. outcomes_same execution (λ call. answer call behind) only (λ call. other call past) false o p f i)) levels inner value
            ((kept_reading execution).set m.1)),
      ) ∷ needs_no_answer_in_turn other changes levels ms behind past i

module _ {V W : Type 0} (execution : Execution) (effect : Call V → W → W) (asked : Asked V) (only : execution.only_introspection ≡ true) where
  root_asks_nothing : (f : Positioned Field) → root_asking execution asked f ≡ None
  root_asks_nothing f = rw (or_true execution.only_introspection (is_typename (name_of f)) only) refl

  pub no_world_changed : (ms : List (List ℕ × Positioned Field)) (world : W) → world_behind (world_after execution effect asked) world ms ≡ world
  no_world_changed [] world = refl
  no_world_changed (m ∷ ms) world =
      ap (λ a. world_behind (world_after execution effect asked) (world_of execution effect world a) ms) (root_asks_nothing m.1) ∙ no_world_changed ms world
