-- Completion comes to objects alone that a type can be.
use Rattle.std.proofs.Common.{rules, ◌≡◌, ℕ, Bool, true, false, ◌&&◌, cond, List, [], ◌∷◌, map, filter, Option, Some, None, Result, Ok, Err, refl, sym, subst, ◌∙◌, arith, inl, inr}
use Rattle.std.specs.List.{Contains, flat_map}
use Rattle.std.specs.Str.{bytes_eq}
use Rattle.std.proofs.lemmas.List.Elements.{Contains-append_cases, Contains-push_cases}
use Rattle.std.specs.Cmp.Lexicographic.{bytes_decides}
use Rattle.gql_base.specs.Pairs.{names_of, under}
use Rattle.gql_base.specs.TypeRef.{innermost, innermost_step}
use Rattle.gql_base.specs.declared.error.Error.{Error}
use Rattle.gql_base.specs.declared.type_ref.TypeRef.{TypeRef, roll-TypeRef}
use Rattle.gql_base.specs.declared.type_ref.TypeRef.TheOpen.{TypeRef-F}
use Rattle.gql_base.specs.declared.type_ref.TypeRef.TheFolds.{fold-roll-TypeRef, ind-TypeRef, map-TypeRef}
use Rattle.gql_base.specs.declared.value.Value.{Value}
use Rattle.gql_meaning.specs.Completion.{AbstractTexts, all_items_in, at_abstract, at_enum, at_items, at_scalar, at_type, completing, completing_step, Completing, fault, if_given, interface_texts, is_null_in, named_in, union_texts, is_possible, required_here, shape_of, unless_null}
use Rattle.gql_place.specs.Filled.{objects_in}
use Rattle.gql_place.specs.declared.shape.Shape.{Shape, the_lemmas}
use Rattle.gql_place.specs.declared.shape.Shape.TheOpen.{Shape-F}
use Rattle.gql_place.specs.declared.shape.Shape.TheVariants as shape
use Rattle.gql_resolve.specs.FieldValue.{value_in}
use Rattle.gql_resolve.specs.declared.field_value.FieldValue.{FieldValue}
use Rattle.gql_base.specs.Kinds.{enum_name_of}
use Rattle.std.specs.Prelude.{option_and_then}
use Rattle.gql_schema.specs.Enum.{items_of}
use Rattle.gql_schema.specs.Scalar.{rule_of}
use Rattle.gql_schema.specs.NameSet.{is_among}
use Rattle.gql_schema.specs.ScalarRule.{takes}
use Rattle.gql_schema.specs.TableReading.{TypeTable, has_type, is_known_object, is_object, possible}
use Rattle.gql_schema.specs.declared.scalar_rule.ScalarRule.{ScalarRule}
use Rattle.gql_schema.specs.declared.schema_type.SchemaType.{SchemaType}
use Rattle.gql_schema.specs.declared.schema_type.SchemaType.TheVariants as types
use Rattle.gql_select.proofs.MergeLemmas.{first_in, later_in}

-- Which objects a type can be.

either : (b : Bool) (P : Type 0) → (b ≡ true → P) → (b ≡ false → P) → P
either true P when_true when_false = when_true refl
either false P when_true when_false = when_false refl

both_true : (a b : Bool) → (a && b) ≡ true → (a ≡ true) × (b ≡ true)
both_true true b h = (refl, h)
both_true false b h = absurd (cc)

kept_first : {A : Type 0} (f : List ℕ × A → Bool) (p : List ℕ × A) (ps : List (List ℕ × A)) → f p ≡ true → Contains (names_of (filter f (p ∷ ps))) p.0
kept_first f p ps kept = rw kept (first_in p.0 (names_of (filter f ps)))

kept_later : {A : Type 0} (f : List ℕ × A → Bool) (p : List ℕ × A) (ps : List (List ℕ × A)) (name : List ℕ) → Contains (names_of (filter f ps)) name
    → Contains (names_of (filter f (p ∷ ps))) name
kept_later f p ps name at =
    either (f p) (Contains (names_of (filter f (p ∷ ps))) name)
    (λ kept. rw kept (later_in p.0 name (names_of (filter f ps)) at)) (λ dropped. rw dropped at)

known_at : (object : List ℕ) (p : List ℕ × SchemaType) (ps : TypeTable) → bytes_eq object p.0 ≡ true → under object (p ∷ ps) ≡ Some p.1
known_at object p ps same = rw same refl

known_past : (object : List ℕ) (p : List ℕ × SchemaType) (ps : TypeTable) → bytes_eq object p.0 ≡ false → under object (p ∷ ps) ≡ under object ps
known_past object p ps apart = rw apart refl

module _ (all : TypeTable) (type : List ℕ) where
  abbrev is_one : List ℕ × SchemaType → Bool
  is_one p = is_object p.1 && has_type all type p.0

  -- an object that is known among these types, and that the type has, is among those that the type can be
  among_possible : (object : List ℕ) (ps : TypeTable) (ty : SchemaType) → under object ps ≡ Some ty → is_object ty ≡ true → has_type all type object ≡ true
      → Contains (names_of (filter is_one ps)) object
  among_possible object [] ty known kind has = absurd (cc)
  among_possible object (p ∷ ps) ty known kind has =
      either (bytes_eq object p.0) (Contains (names_of (filter is_one (p ∷ ps))) object)
      (λ same.
      let name : object ≡ p.0 = (bytes_decides object p.0).0 same in
      let found : p.1 ≡ ty = let e : Some p.1 ≡ Some ty = sym (known_at object p ps same) ∙ known in cc in
      let one : is_one p ≡ true = (λ i. is_object (found i) && has_type all type (sym name i)) ∙ (λ i. kind i && has i) in
      subst (λ n. Contains (names_of (filter is_one (p ∷ ps))) n) (sym name) (kept_first is_one p ps one))
      (λ apart.
      kept_later is_one p ps object (among_possible object ps ty (sym (known_past object p ps apart) ∙ known) kind has))

pub itself : (name : List ℕ) → bytes_eq name name ≡ true
itself name = (bytes_decides name name).1 refl

has_itself : (table : TypeTable) (name : List ℕ) → has_type table name name ≡ true
has_itself table name = rw (itself name) refl

known_in : (table : TypeTable) (type object : List ℕ) (found : Option SchemaType) → under object table ≡ found
    → (is_known_object found && has_type table type object) ≡ true → Contains (possible table type) object
known_in table type object None at h = absurd (cc)
known_in table type object (Some ty) at h =
    let parts = both_true (is_object ty) (has_type table type object) h in
    among_possible table type object table ty at parts.0 parts.1

pub is_possible_in : (table : TypeTable) (type object : List ℕ) → is_possible table type object ≡ true → Contains (possible table type) object
is_possible_in table type object h = known_in table type object (under object table) refl h

never_in : (object : List ℕ) → Contains [] object → ⊥
never_in object (at, within, is) = absurd (omega (arith, within))

-- Which objects stand in what a value comes to.

module _ (V : Type 0) where
  abbrev Comes : Type 0
  Comes = Shape (List ℕ) (FieldValue V)

  -- each object of a shape is among these
  Within : List (List ℕ) → Comes → Type 0
  Within objects shape = (object : List ℕ) → Contains (objects_in shape) object → Contains objects object

  objects-Absent : objects_in {O = List ℕ} {P = FieldValue V} shape.Absent ≡ []
  objects-Absent = search (rules, the_lemmas)

  objects-Leaf : (leaf : Value) → objects_in {O = List ℕ} {P = FieldValue V} (shape.Leaf leaf) ≡ []
  objects-Leaf leaf = search (rules, the_lemmas)

  objects-Fault : (error : Error) → objects_in {O = List ℕ} {P = FieldValue V} (shape.Fault error) ≡ []
  objects-Fault error = search (rules, the_lemmas)

  objects-Object : (object : List ℕ) (inner : FieldValue V) → objects_in (shape.Object object inner) ≡ object ∷ []
  objects-Object object inner = search (rules, the_lemmas)

  objects-List : (non_null : Bool) (items : List Comes) → objects_in (shape.List non_null items) ≡ flat_map (λ objects. objects) (map objects_in items)
  objects-List non_null items = search (rules, the_lemmas)

  none_within : (objects : List (List ℕ)) (comes : Comes) → objects_in comes ≡ [] → Within objects comes
  unfolding Within
  none_within objects comes none = λ object at. absurd (never_in object (subst (λ os. Contains os object) none at))

  fault_error : (error : Error) (objects : List (List ℕ)) → Within objects (shape.Fault error)
  fault_error error objects = none_within objects (shape.Fault error) (objects-Fault error)

  fault_within : (objects : List (List ℕ)) (message : List ℕ) → Within objects (fault message)
  fault_within objects message = fault_error _ objects

  absent_within : (objects : List (List ℕ)) → Within objects shape.Absent
  absent_within objects = none_within objects shape.Absent objects-Absent

  leaf_within : (objects : List (List ℕ)) (leaf : Value) → Within objects (shape.Leaf leaf)
  leaf_within objects leaf = none_within objects (shape.Leaf leaf) (objects-Leaf leaf)

  object_within : (objects : List (List ℕ)) (object : List ℕ) (inner : FieldValue V) → Contains objects object → Within objects (shape.Object object inner)
  unfolding Within
  object_within objects object inner among = λ other at.
      elim (Contains-push_cases [] object other (subst (λ os. Contains os other) (objects-Object object inner) at)) [
        | inl h ↦ absurd (never_in other h)
        | inr same ↦ subst (λ o. Contains objects o) same among
      ]

  items_among : {A : Type 0} (objects : List (List ℕ)) (f : A → Comes) → ((x : A) → Within objects (f x)) → (xs : List A) (object : List ℕ)
      → Contains (flat_map (λ os. os) (map objects_in (map f xs))) object → Contains objects object
  unfolding Within
  items_among objects f each [] object at = absurd (never_in object at)
  items_among objects f each (x ∷ xs) object at =
      elim (Contains-append_cases (objects_in (f x)) (flat_map (λ os. os) (map objects_in (map f xs))) object at) [
        | inl h ↦ each x object h
        | inr h ↦ items_among objects f each xs object h
      ]

  list_within : {A : Type 0} (objects : List (List ℕ)) (non_null : Bool) (f : A → Comes) → ((x : A) → Within objects (f x)) → (xs : List A)
      → Within objects (shape.List non_null (map f xs))
  unfolding Within
  list_within objects non_null f each xs = λ object at.
      items_among objects f each xs object (subst (λ os. Contains os object) (objects-List non_null (map f xs)) at)

  by_test : (objects : List (List ℕ)) (b : Bool) (one other : Comes) → Within objects one → Within objects other → Within objects (cond b one other)
  by_test objects true one other h k = h
  by_test objects false one other h k = k

  unless_within : (objects : List (List ℕ)) (given : FieldValue V) (comes : Comes) → Within objects comes → Within objects (unless_null given comes)
  unless_within objects given comes h = by_test objects (is_null_in (value_in given)) shape.Absent comes (absent_within objects) h

  required_within : (objects : List (List ℕ)) (comes : Comes) (y : Shape-F (List ℕ) (FieldValue V) Comes) → Within objects comes → Within objects (required_here comes y)
  required_within objects comes Shape-F.Absent h = fault_within objects _
  required_within objects comes (Shape-F.Leaf leaf) h = h
  required_within objects comes (Shape-F.Fault error) h = h
  required_within objects comes (Shape-F.Object object inner) h = h
  required_within objects comes (Shape-F.List non_null items) h = h

  scalar_within : (objects : List (List ℕ)) (name : List ℕ) (rule : ScalarRule) (found : Option Value) → Within objects (at_scalar name rule found)
  scalar_within objects name rule None = fault_within objects _
  scalar_within objects name rule (Some whole) = by_test objects (takes rule whole) _ _ (leaf_within objects _) (fault_within objects _)

  enum_within : (objects : List (List ℕ)) (name : List ℕ) (items : List (List ℕ)) (found : Option (List ℕ)) → Within objects (at_enum name items found)
  enum_within objects name items None = fault_within objects _
  enum_within objects name items (Some item) = by_test objects (is_among item items) _ _ (leaf_within objects _) (fault_within objects _)

  module _ (table : TypeTable) where
    abstract_within : (name : List ℕ) (texts : AbstractTexts) (named : Option (List ℕ × FieldValue V)) → Within (possible table name) (at_abstract table name texts named)
    abstract_within name texts None = fault_within (possible table name) _
    abstract_within name texts (Some (object, inner)) =
        either (is_possible table name object) (Within (possible table name) (at_abstract table name texts (Some (object, inner))))
        (λ yes. rw yes (object_within (possible table name) object inner (is_possible_in table name object yes)))
        (λ no. rw no (fault_within (possible table name) _))

    type_within : (name : List ℕ) (found : Option SchemaType) → under name table ≡ found → (given : FieldValue V)
        → Within (possible table name) (at_type table name found given)
    type_within name None at given = absent_within _
    type_within name (Some (types.Scalar scalar)) at given = unless_within _ given _ (scalar_within _ name (rule_of scalar) (value_in given))
    type_within name (Some (types.Object object)) at given =
        object_within _ name given (known_in table name name (Some (types.Object object)) at (has_itself table name))
    type_within name (Some (types.InputObject input)) at given = absent_within _
    type_within name (Some (types.Enum enum)) at given =
        unless_within _ given _ (enum_within _ name (items_of enum) (option_and_then enum_name_of (value_in given)))
    type_within name (Some (types.Interface interface)) at given = unless_within _ given _ (abstract_within name (interface_texts name) (named_in given))
    type_within name (Some (types.Union union)) at given = unless_within _ given _ (abstract_within name (union_texts name) (named_in given))
    type_within name (Some (types.Subscription subscription)) at given = absent_within _

    given_within : (objects : List (List ℕ)) (completes : FieldValue V → Comes) → ((given : FieldValue V) → Within objects (completes given))
        → (given : Option (FieldValue V)) → Within objects (if_given completes given)
    given_within objects completes each None = absent_within objects
    given_within objects completes each (Some given) = each given

    items_within : (objects : List (List ℕ)) (inner : Completing V) → ((given : Option (FieldValue V)) → Within objects (inner.completes given))
        → (found : Option (List (FieldValue V))) → Within objects (at_items inner found)
    items_within objects inner each None = fault_within objects _
    items_within objects inner each (Some items) = list_within objects inner.non_null (λ item. inner.completes (Some item)) (λ item. each (Some item)) items

    -- at each type a value comes to what is possible there
    Fits : TypeRef → Type 0
    Fits ty = (given : Option (FieldValue V)) → Within (possible table (innermost ty)) ((completing table ty).completes given)

    module _ (E : Type 0) (t : E → TypeRef) (is : (e : E) → Fits (t e)) where
      middle : (y : TypeRef-F E) (given : Option (FieldValue V))
          → Within (possible table (innermost_step (map-TypeRef TypeRef (List ℕ) innermost (map-TypeRef E TypeRef t y))))
          ((completing_step table (map-TypeRef TypeRef (Completing V) (completing table) (map-TypeRef E TypeRef t y))).completes given)
      unfolding Fits
      middle (TypeRef-F.Named name) given = given_within _ _ (type_within name (under name table) refl) given
      middle (TypeRef-F.NonNull e) given = required_within _ _ _ (is e given)
      middle (TypeRef-F.List e) given =
          given_within _ _ (λ item. unless_within _ item _ (items_within _ (completing table (t e)) (is e) (all_items_in item))) given

      layer : (y : TypeRef-F E) → Fits (roll-TypeRef (map-TypeRef E TypeRef t y))
      unfolding Fits
      layer y = λ given.
          let x : TypeRef-F TypeRef = map-TypeRef E TypeRef t y in
          subst (λ name. Within (possible table name) ((completing table (roll-TypeRef x)).completes given)) (sym (fold-roll-TypeRef (List ℕ) innermost_step x))
          (subst (λ (c : Completing V). Within (possible table (innermost_step (map-TypeRef TypeRef (List ℕ) innermost x))) (c.completes given))
          (sym (fold-roll-TypeRef (Completing V) (completing_step table) x)) (middle y given))

    value_fits : (ty : TypeRef) → Fits ty
    value_fits = ind-TypeRef Fits (λ x y is. subst (λ z. Fits (roll-TypeRef z)) is (layer _ (λ e. e.0) (λ e. e.1) y))

  pub shape_fits : (table : TypeTable) (ty : TypeRef) (result : Result (Option (FieldValue V)) Error) (object : List ℕ)
      → Contains (objects_in (shape_of table ty result)) object → Contains (possible table (innermost ty)) object
  unfolding Within Fits
  shape_fits table ty (Err error) object at = fault_error error (possible table (innermost ty)) object at
  shape_fits table ty (Ok given) object at = value_fits table ty given object at

  pub absent_fits : (objects : List (List ℕ)) (object : List ℕ) → Contains (objects_in {O = List ℕ} {P = FieldValue V} shape.Absent) object
      → Contains objects object
  unfolding Within
  absent_fits objects object at = absent_within objects object at

  pub leaf_fits : (objects : List (List ℕ)) (leaf : Value) (object : List ℕ) → Contains (objects_in {O = List ℕ} {P = FieldValue V} (shape.Leaf leaf)) object
      → Contains objects object
  unfolding Within
  leaf_fits objects leaf object at = leaf_within objects leaf object at
