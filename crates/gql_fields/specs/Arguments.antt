-- What is told of the arguments of a field or a directive (GraphQL, October 2021, sections 5.4 and
-- 5.6.1).
use Rattle.std.specs.Prelude.{ℕ, Bool, ◌||◌, not, List, [], ◌∷◌, ◌++◌, map, Option, Some, None}
use Rattle.std.specs.Prelude.{is_some}
use Rattle.std.specs.List.{flat_map}
use Rattle.gql_base.specs.Pairs.{under}
use Rattle.gql_base.specs.TypeRef.{is_nullable}
use Rattle.gql_base.specs.declared.pos.Pos.{Pos}
use Rattle.gql_base.specs.declared.type_ref.TypeRef.{TypeRef}
use Rattle.gql_doc.specs.declared.document.Argument.{Argument}
use Rattle.gql_schema.specs.InputValue.{default_of, input_type}
use Rattle.gql_schema.specs.NameSet.{is_among}
use Rattle.gql_schema.specs.TableReading.{TypeTable}
use Rattle.gql_schema.specs.declared.input_value.InputValue.{InputValue}
use Rattle.gql_fields.specs.Breach.{breach, unless}
use Rattle.gql_fields.specs.BreachTexts.{doubled_text, invalid_text, missing_of_directive_text}
use Rattle.gql_fields.specs.BreachTexts.{missing_of_field_text, unknown_of_directive_text}
use Rattle.gql_fields.specs.BreachTexts.{unknown_of_field_text}
use Rattle.gql_fields.specs.GivenNames.{told_along}
use Rattle.gql_fields.specs.Literals.{literal_fits, reason_text}
use Rattle.gql_fields.specs.declared.breach.Breach.{Breach}
use Rattle.gql_fields.specs.declared.breach.BreachKind.TheVariants as kinds

-- what has arguments: a field of a type, or a directive
pub data Owner : Type 0 where
  FieldOf : (name parent : List ℕ) → Owner
  DirectiveOf : (name : List ℕ) → Owner

-- a place with arguments: what has them, where it stands, and which it declares
pub record Bearing : Type 0 where
  pub owner : Owner
  pub pos : Pos
  pub declared : List (List ℕ × InputValue)

-- the texts of an argument that isn't declared, and of one that isn't given
abbrev pub unknown_argument_text : Owner → List ℕ → List ℕ
unknown_argument_text (FieldOf field parent) argument = unknown_of_field_text argument field parent
unknown_argument_text (DirectiveOf directive) argument =
    unknown_of_directive_text argument directive

abbrev pub missing_argument_text : Owner → List ℕ → List ℕ
missing_argument_text (FieldOf field parent) argument = missing_of_field_text argument field
missing_argument_text (DirectiveOf directive) argument =
    missing_of_directive_text argument directive

abbrev pub argument_name : Argument → List ℕ
argument_name argument = argument.name.node

abbrev pub unknown_argument : Owner → Argument → Breach
unknown_argument owner argument =
    breach argument.name.pos kinds.UnknownArgument (argument_name argument)
    (unknown_argument_text owner (argument_name argument))

abbrev pub missing_argument : Bearing → List ℕ → Breach
missing_argument bearing name =
    breach bearing.pos kinds.MissingArgument name (missing_argument_text bearing.owner name)

abbrev pub doubled_argument : Argument → Breach
doubled_argument argument =
    breach argument.name.pos kinds.DoubledArgument (argument_name argument)
    (doubled_text (argument_name argument))

abbrev pub misfit : TypeTable → Argument → TypeRef → Breach
misfit table argument ty =
    breach argument.name.pos kinds.Value (argument_name argument)
    (invalid_text (argument_name argument) (reason_text table ty argument.value.node))

-- an argument that may be left out
abbrev pub is_optional : InputValue → Bool
is_optional input = is_nullable (input_type input) || is_some (default_of input)

-- no argument of the name is given before
abbrev pub told_of_doubled : (before : List (List ℕ)) → Argument → List Breach
told_of_doubled before argument =
    unless (not (is_among (argument_name argument) before)) (doubled_argument argument)

-- an argument that can't be left out is given
abbrev pub told_of_missing : Bearing → (given : List (List ℕ)) → List ℕ × InputValue → List Breach
told_of_missing bearing given (name, input) =
    unless (is_optional input || is_among name given) (missing_argument bearing name)

module _ (table : TypeTable) where
  -- a literal fits its type
  abbrev pub told_of_value : Argument → TypeRef → List Breach
  told_of_value argument ty =
      unless (literal_fits table argument.value.node ty) (misfit table argument ty)

  -- an argument is declared, and fits
  abbrev pub told_of_declared : Owner → Argument → Option InputValue → List Breach
  told_of_declared owner argument None = unknown_argument owner argument ∷ []
  told_of_declared owner argument (Some input) = told_of_value argument (input_type input)

  -- what is told of an argument after those of these names
  abbrev pub told_of_argument : Bearing → (before : List (List ℕ)) → Argument → List Breach
  told_of_argument bearing before argument =
      told_of_doubled before argument
      ++ told_of_declared bearing.owner argument (under (argument_name argument) bearing.declared)

  -- and of all of a list
  abbrev pub told_of_given : Bearing → List Argument → List Breach
  told_of_given bearing arguments = told_along argument_name (told_of_argument bearing) [] arguments

  -- the arguments that are given, and those that aren't
  abbrev pub told_of_arguments : Bearing → List Argument → List Breach
  told_of_arguments bearing arguments =
      told_of_given bearing arguments
      ++ flat_map (told_of_missing bearing (map argument_name arguments)) bearing.declared
