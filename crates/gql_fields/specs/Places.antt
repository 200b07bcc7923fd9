-- The places of a document at which rules are looked at, each with the type that it stands on.
-- Under an unknown field, a leaf or a condition on no composite type there are none; the
-- directives that stand on an unknown field, or beside such a condition, are looked at.
use Rattle.std.specs.Prelude.{ℕ, Bool, true, false, not, List, [], ◌∷◌, ◌++◌, Option, Some, None}
use Rattle.std.specs.Prelude.{option_and_then}
use Rattle.std.specs.List.{flat_map}
use Rattle.gql_base.specs.Pairs.{under, values_of}
use Rattle.gql_base.specs.TypeRef.{innermost}
use Rattle.gql_base.specs.declared.pos.Pos.{Pos}
use Rattle.gql_base.specs.declared.type_ref.TypeRef.{TypeRef}
use Rattle.gql_doc.specs.Depth.{fragment_set, operation_set, operations_in}
use Rattle.gql_doc.specs.declared.document.Argument.{Argument}
use Rattle.gql_doc.specs.declared.document.Directive.{Directive}
use Rattle.gql_doc.specs.declared.document.ExecutableDocument.{ExecutableDocument}
use Rattle.gql_doc.specs.declared.document.FragmentDefinition.{FragmentDefinition}
use Rattle.gql_doc.specs.declared.document.OperationDefinition.{OperationDefinition}
use Rattle.gql_doc.specs.declared.document.OperationType.{OperationType}
use Rattle.gql_doc.specs.declared.document.OperationType.TheVariants.{Query, Mutation, Subscription}
use Rattle.gql_doc.specs.declared.document.Positioned.{Positioned}
use Rattle.gql_doc.specs.declared.document.Selection.{Selection}
use Rattle.gql_doc.specs.declared.document.Selection.TheOpen.{Selection-F, Field-F}
use Rattle.gql_doc.specs.declared.document.Selection.TheOpen.{InlineFragment-F, SelectionSet-F}
use Rattle.gql_doc.specs.declared.document.Selection.TheFolds.{fold-Field, fold-InlineFragment}
use Rattle.gql_doc.specs.declared.document.Selection.TheFolds.{fold-Selection, fold-SelectionSet}
use Rattle.gql_doc.specs.declared.document.Field.{Field}
use Rattle.gql_doc.specs.declared.document.InlineFragment.{InlineFragment}
use Rattle.gql_doc.specs.declared.document.SelectionSet.{SelectionSet}
use Rattle.gql_doc.specs.declared.document.VariableDefinition.{VariableDefinition}
use Rattle.gql_schema.specs.declared.schema_type.SchemaType.{SchemaType}
use Rattle.gql_schema.specs.declared.schema_type.SchemaType.TheVariants as types
use Rattle.gql_fields.specs.FieldTypes.{field_type}
use Rattle.gql_fields.specs.Terms.{Terms}

-- a field without what is under it
pub record FieldPlace : Type 0 where
  -- the type that it stands on
  pub parent : SchemaType
  pub pos : Pos
  pub name : List ℕ
  pub arguments : List Argument
  pub has_set : Bool

pub data Place : Type 0 where
  OnField : FieldPlace → Place
  -- a spread of the fragment of this name
  OnSpread : Pos → List ℕ → Place
  -- a condition on the type of this name
  OnCondition : Pos → List ℕ → Place
  -- a directive, and whether it stands on a selection
  OnDirective : Bool → Positioned Directive → Place

-- the places under a type
abbrev pub Places : Type 0
Places = SchemaType → List Place

-- a set's places, and whether it has any selection
pub record SetPlaces : Type 0 where
  pub is_empty : Bool
  pub on : Places

-- whether a list has no item
abbrev pub is_nil : {A : Type 0} → List A → Bool
is_nil [] = true
is_nil (x ∷ xs) = false

-- the places on a type, where it is composite
abbrev pub on_composite : Option SchemaType → Places → List Place
on_composite None places = []
on_composite (Some (types.Object object)) places = places (types.Object object)
on_composite (Some (types.Interface interface)) places = places (types.Interface interface)
on_composite (Some (types.Union union)) places = places (types.Union union)
on_composite (Some _) places = []

-- some directives, which stand on a selection or on a definition
abbrev pub directive_places : (selects : Bool) → List (Positioned Directive) → List Place
directive_places selects directives =
    flat_map (λ directive. OnDirective selects directive ∷ []) directives

-- the directives of the definitions of variables
abbrev pub variable_places : List (Positioned VariableDefinition) → List Place
variable_places variables =
    flat_map (λ variable. directive_places false variable.node.directives) variables

-- one level of each part of a document
abbrev pub selection_step : Selection-F Places (Pos → Places) Places SetPlaces → Places
selection_step (Selection-F.Field field) ty = field.node field.pos ty
selection_step (Selection-F.FragmentSpread spread) ty =
    OnSpread spread.pos spread.node.fragment_name.node
    ∷ directive_places true spread.node.directives
selection_step (Selection-F.InlineFragment fragment) ty = fragment.node ty

abbrev pub set_step : SelectionSet-F Places (Pos → Places) Places SetPlaces → SetPlaces
set_step set = record {
  is_empty = is_nil set.items;
  on = λ ty. flat_map (λ selection. selection.node ty) set.items;
}

-- the places on a type, if there is one
abbrev pub on_any : Option SchemaType → Places → List Place
on_any None places = []
on_any (Some ty) places = places ty

-- an object at the root of queries or mutations, and a subscription at that of subscriptions
abbrev pub as_object : Option SchemaType → Option SchemaType
as_object (Some (types.Object object)) = Some (types.Object object)
as_object _ = None

abbrev pub as_subscription : Option SchemaType → Option SchemaType
as_subscription (Some (types.Subscription subscription)) = Some (types.Subscription subscription)
as_subscription _ = None

module _ (terms : Terms) where
  -- the places on the type of this name
  abbrev pub on_named : List ℕ → Places → List Place
  on_named name places = on_composite (under name terms.table) places

  -- the places of the set of a field of this type, where the field is known
  abbrev pub beneath_field : Option TypeRef → Places → List Place
  beneath_field None places = []
  beneath_field (Some ty) places = on_named (innermost ty) places

  -- the places of a fragment in place: it stands on the type around it, or on that of its condition
  abbrev pub under_condition : Option (Positioned (List ℕ)) → Places → Places
  under_condition None places ty = places ty
  under_condition (Some condition) places ty =
      OnCondition condition.pos condition.node ∷ on_named condition.node places

  -- one level of a field, and of a fragment in place
  abbrev pub field_step : Field-F Places (Pos → Places) Places SetPlaces → Pos → Places
  field_step field pos ty =
      OnField (record {
        parent = ty;
        pos = pos;
        name = field.name.node;
        arguments = field.arguments;
        has_set = not field.selection_set.node.is_empty;
      })
      ∷ (directive_places true field.directives
      ++ beneath_field (field_type terms ty field.name.node) field.selection_set.node.on)

  abbrev pub inline_step : InlineFragment-F Places (Pos → Places) Places SetPlaces → Places
  inline_step fragment ty =
      directive_places true fragment.directives
      ++ under_condition fragment.type_condition fragment.selection_set.node.on ty

  abbrev pub selection_places : Selection → Places
  selection_places =
      fold-Selection Places (Pos → Places) Places SetPlaces selection_step field_step inline_step
      set_step

  abbrev pub field_places : Field → Pos → Places
  field_places =
      fold-Field Places (Pos → Places) Places SetPlaces selection_step field_step inline_step
      set_step

  abbrev pub inline_places : InlineFragment → Places
  inline_places =
      fold-InlineFragment Places (Pos → Places) Places SetPlaces selection_step field_step
      inline_step set_step

  abbrev pub places_of_set : SelectionSet → SetPlaces
  places_of_set =
      fold-SelectionSet Places (Pos → Places) Places SetPlaces selection_step field_step inline_step
      set_step

  -- the places in a set on a type
  abbrev pub set_places : SelectionSet → Places
  set_places set = (places_of_set set).on

  -- the type of a name, if there is one
  abbrev pub type_named : Option (List ℕ) → Option SchemaType
  type_named name = option_and_then (λ n. under n terms.table) name

  -- the root of a kind of operation, where there is one (section 3.3.1)
  abbrev pub root_of : OperationType → Option SchemaType
  root_of Query = as_object (under terms.query terms.table)
  root_of Mutation = as_object (type_named terms.mutation)
  root_of Subscription = as_subscription (type_named terms.subscription)

  -- the places of an operation on the type of its root
  abbrev pub rooted_places : Positioned OperationDefinition → Places
  rooted_places operation ty =
      variable_places operation.node.variable_definitions
      ++ (directive_places false operation.node.directives
      ++ set_places (operation_set operation).node ty)

  -- an operation without a root has no places
  abbrev pub operation_places : Positioned OperationDefinition → List Place
  operation_places operation = on_any (root_of operation.node.ty) (rooted_places operation)

  abbrev pub fragment_places : Positioned FragmentDefinition → List Place
  fragment_places fragment =
      OnCondition fragment.node.type_condition.pos fragment.node.type_condition.node
      ∷ (directive_places false fragment.node.directives
      ++ on_named fragment.node.type_condition.node (set_places (fragment_set fragment).node))

  -- the places of a document as it stands: spreads aren't entered
  abbrev pub document_places : ExecutableDocument → List Place
  document_places document =
      flat_map operation_places (operations_in document.operations)
      ++ flat_map fragment_places (values_of document.fragments)
