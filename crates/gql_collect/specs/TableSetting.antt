-- What the fields of a request are read by, where the types stand in a table (GraphQL, October
-- 2021, sections 5.5.2.3 and 6.3.2).
use Rattle.std.specs.Prelude.{ℕ, Bool, false, ◌&&◌, List, [], ◌∷◌, map, codes, Option, Some, None}
use Rattle.std.specs.Prelude.{if◌then◌else◌}
use Rattle.std.specs.Str.{bytes_eq}
use Rattle.gql_base.specs.TypeRef.{innermost}
use Rattle.gql_base.specs.declared.type_ref.TypeRef.TheVariants as ref
use Rattle.gql_doc.specs.Depth.{Fragments}
use Rattle.gql_schema.specs.InputValue.{default_of}
use Rattle.gql_schema.specs.TableReading.{Declared as DeclaredField, TypeTable, field, has_type}
use Rattle.gql_schema.specs.TableReading.{possible}
use Rattle.gql_select.specs.Collected.{Setting}
use Rattle.gql_select.specs.Constants.{Declared}

-- where entities of federation are on: the name of the query root, and the number of the resolver
-- that finds entities
pub record Entities : Type 0 where
  pub root : List ℕ
  pub resolver : ℕ

-- a schema as an execution sees it
pub record Schema : Type 0 where
  pub table : TypeTable
  pub entities : Option Entities

-- the field `_entities(representations: [_Any!]!): [_Entity]!`
abbrev pub entities_field : Entities → DeclaredField
entities_field entities = record {
  ty = ref.NonNull (ref.List (ref.Named (codes "_Entity")));
  number = Some entities.resolver;
  arguments = (
    codes "representations",
    record {
      name = codes "representations";
      ty = ref.NonNull (ref.List (ref.NonNull (ref.Named (codes "_Any"))));
      default = None;
    },
  )
      ∷ [];
}

-- whether it is the field of entities of the query root
abbrev pub is_entities : Option Entities → List ℕ → List ℕ → Bool
is_entities None object name = false
is_entities (Some entities) object name =
    bytes_eq name (codes "_entities") && bytes_eq object entities.root

-- that field, where entities are on
abbrev pub entities_if : Option Entities → Option DeclaredField
entities_if None = None
entities_if (Some entities) = Some (entities_field entities)

-- the field of this name of an object: the query root has that of entities too, where they are on
abbrev pub field_in : Schema → List ℕ → List ℕ → Option DeclaredField
field_in schema object name =
    if is_entities schema.entities object name
    then entities_if schema.entities else field schema.table object name

-- the objects that a field can come to: those that its type can be
abbrev pub objects_of : TypeTable → Option DeclaredField → List (List ℕ)
objects_of table None = []
objects_of table (Some declared) = possible table (innermost declared.ty)

-- a condition lets the objects of its type in, and under a field are the objects of its own type
abbrev pub setting_of : Schema → Fragments → ℕ → Setting
setting_of schema fragments levels = record {
  fragments = fragments;
  levels = levels;
  covers = has_type schema.table;
  beneath = λ object name. objects_of schema.table (field_in schema object name);
}

-- the arguments that a field declares, in their order
abbrev pub arguments_in : Option DeclaredField → List Declared
arguments_in None = []
arguments_in (Some declared) =
    map (λ argument. (argument.0, default_of argument.1)) declared.arguments

-- the arguments of the field of this name of an object
abbrev pub declared_arguments : Schema → List ℕ → List ℕ → List Declared
declared_arguments schema object name = arguments_in (field_in schema object name)
