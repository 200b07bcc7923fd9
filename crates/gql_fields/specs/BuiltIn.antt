-- The arguments of what every schema has: `__typename`, `_entities`, `@skip` and `@include`
-- (GraphQL, October 2021, sections 3.13.1,
-- 3.13.2 and 4.1).
use Rattle.std.specs.Prelude.{[], ◌∷◌, None, codes}
use Rattle.gql_base.specs.declared.type_ref.TypeRef.TheVariants as ref
use Rattle.gql_schema.specs.declared.input_value.InputValue.{InputValue}
use Rattle.gql_fields.specs.declared.built_in_arguments.BuiltIn.{BuiltIn}

-- `if: Boolean!`
abbrev pub if_argument : InputValue
if_argument =
    record { name = codes "if"; ty = ref.NonNull (ref.Named (codes "Boolean")); default = None }

-- `representations: [_Any!]!`
abbrev pub representations_argument : InputValue
representations_argument = record {
  name = codes "representations";
  ty = ref.NonNull (ref.List (ref.NonNull (ref.Named (codes "_Any"))));
  default = None;
}

abbrev pub built_in : BuiltIn
built_in = record {
  typename = [];
  entities = (codes "representations", representations_argument) ∷ [];
  condition = (codes "if", if_argument) ∷ [];
}
