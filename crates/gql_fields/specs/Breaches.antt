-- The rules of the specification that a document breaks over a table of types.
use Rattle.std.specs.Prelude.{ℕ, Bool, true, false, ◌&&◌, ◌||◌, List, [], ◌∷◌, ◌++◌, Option, Some}
use Rattle.std.specs.Prelude.{None, if◌then◌else◌}
use Rattle.std.specs.List.{flat_map}
use Rattle.gql_base.specs.Pairs.{under}
use Rattle.gql_base.specs.TypeRef.{innermost, type_text}
use Rattle.gql_base.specs.declared.pos.Pos.{Pos}
use Rattle.gql_base.specs.declared.type_ref.TypeRef.{TypeRef}
use Rattle.gql_doc.specs.Depth.{Fragments}
use Rattle.gql_doc.specs.declared.document.FragmentDefinition.{FragmentDefinition}
use Rattle.gql_doc.specs.declared.document.Positioned.{Positioned}
use Rattle.gql_doc.specs.declared.document.Directive.{Directive}
use Rattle.gql_schema.specs.TableReading.{Declared}
use Rattle.gql_schema.specs.Types.{type_name}
use Rattle.gql_schema.specs.declared.schema_type.SchemaType.{SchemaType}
use Rattle.gql_select.specs.Kept.{is_include, is_skip}
use Rattle.gql_fields.specs.Arguments.{Bearing, DirectiveOf, FieldOf, told_of_arguments}
use Rattle.gql_fields.specs.Breach.{breach, unless}
use Rattle.gql_fields.specs.BreachTexts.{composite_text, condition_text, leaf_text}
use Rattle.gql_fields.specs.BreachTexts.{unknown_directive_text, unknown_field_text}
use Rattle.gql_fields.specs.BreachTexts.{unknown_fragment_text}
use Rattle.gql_fields.specs.FieldTypes.{is_composite, is_leaf, known_field}
use Rattle.gql_fields.specs.Places.{FieldPlace, Place, OnCondition, OnDirective, OnField, OnSpread}
use Rattle.gql_fields.specs.Terms.{Terms}
use Rattle.gql_fields.specs.declared.breach.Breach.{Breach}
use Rattle.gql_fields.specs.declared.breach.BreachKind.TheVariants as kinds
use Rattle.gql_fields.specs.declared.built_in_arguments.BuiltIn.{BuiltIn}

-- whether a type that was looked for is there and passes a test
abbrev pub passes : (SchemaType → Bool) → Option SchemaType → Bool
passes test None = false
passes test (Some ty) = test ty

-- whether the name is that of a type whose fields have no sets, and of an object, an interface or a
-- union
abbrev pub is_leaf_named : Terms → List ℕ → Bool
is_leaf_named terms name = passes is_leaf (under name terms.table)

abbrev pub is_composite_named : Terms → List ℕ → Bool
is_composite_named terms name = passes is_composite (under name terms.table)

abbrev pub unknown_field : FieldPlace → Breach
unknown_field field =
    breach field.pos kinds.UnknownField field.name
    (unknown_field_text field.name (type_name field.parent))

abbrev pub set_on_leaf : FieldPlace → TypeRef → Breach
set_on_leaf field ty =
    breach field.pos kinds.Selection field.name (leaf_text field.name (type_text ty))

abbrev pub no_set : FieldPlace → TypeRef → Breach
no_set field ty =
    breach field.pos kinds.Selection field.name (composite_text field.name (type_text ty))

abbrev pub unknown_condition : Pos → List ℕ → Breach
unknown_condition pos name = breach pos kinds.Condition name (condition_text name)

abbrev pub unknown_fragment : Pos → List ℕ → Breach
unknown_fragment pos name = breach pos kinds.UnknownFragment name (unknown_fragment_text name)

-- a leaf has no set, and another type has one
abbrev pub told_of_set : FieldPlace → TypeRef → (leaf has_set : Bool) → List Breach
told_of_set field ty true true = set_on_leaf field ty ∷ []
told_of_set field ty true false = []
told_of_set field ty false true = []
told_of_set field ty false false = no_set field ty ∷ []

-- a spread names a fragment
abbrev pub told_of_spread : Pos → List ℕ → Option (Positioned FragmentDefinition) → List Breach
told_of_spread pos name None = unknown_fragment pos name ∷ []
told_of_spread pos name (Some fragment) = []

-- a condition names an object, an interface or a union
abbrev pub told_of_condition : Terms → Pos → List ℕ → List Breach
told_of_condition terms pos name =
    unless (is_composite_named terms name) (unknown_condition pos name)

abbrev pub unknown_directive : Positioned Directive → Breach
unknown_directive directive =
    breach directive.pos kinds.Directive directive.node.name.node
    (unknown_directive_text directive.node.name.node)

-- the directives `@skip` and `@include`, which stand on selections
abbrev pub is_condition : Directive → Bool
is_condition directive = is_skip directive || is_include directive

-- the places with arguments
abbrev pub field_bearing : FieldPlace → Declared → Bearing
field_bearing field declared = record {
  owner = FieldOf field.name (type_name field.parent);
  pos = field.pos;
  declared = declared.arguments;
}

abbrev pub directive_bearing : BuiltIn → Positioned Directive → Bearing
directive_bearing built directive = record {
  owner = DirectiveOf directive.node.name.node;
  pos = directive.pos;
  declared = built.condition;
}

-- a known field has a set or has none, and its arguments
abbrev pub told_of_known : Terms → FieldPlace → Declared → List Breach
told_of_known terms field declared =
    told_of_set field declared.ty (is_leaf_named terms (innermost declared.ty)) field.has_set
    ++ told_of_arguments terms.table (field_bearing field declared) field.arguments

module _ (built : BuiltIn) (terms : Terms) where
  -- a field is one of its type's
  abbrev pub told_of_field : FieldPlace → Option Declared → List Breach
  told_of_field field None = unknown_field field ∷ []
  told_of_field field (Some declared) = told_of_known terms field declared

  -- a directive is known where it stands, and has its arguments
  abbrev pub told_of_directive : (selects : Bool) → Positioned Directive → List Breach
  told_of_directive selects directive =
      if selects && is_condition directive.node
      then told_of_arguments terms.table (directive_bearing built directive)
      directive.node.arguments
      else (unknown_directive directive ∷ [])

  module _ (fragments : Fragments) where
    -- the rules that are broken at a place
    abbrev pub told_at : Place → List Breach
    told_at (OnField field) = told_of_field field (known_field built terms field.parent field.name)
    told_at (OnSpread pos name) = told_of_spread pos name (under name fragments)
    told_at (OnCondition pos name) = told_of_condition terms pos name
    told_at (OnDirective selects directive) = told_of_directive selects directive

    -- those that are broken at some places
    abbrev pub told : List Place → List Breach
    told places = flat_map told_at places
