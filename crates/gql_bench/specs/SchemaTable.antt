-- The table of the types of a bench.
use Rattle.std.specs.Prelude.{◌+◌, List, [], ◌∷◌, length}
use Rattle.gql_form.specs.declared.schema_form.SchemaForm.{SchemaForm}
use Rattle.gql_form.specs.declared.type_form.TypeForm.{TypeForm}
use Rattle.gql_form.specs.declared.type_form.TypeForm.TheVariants as forms
use Rattle.gql_base.specs.Pairs.{put}
use Rattle.gql_schema.specs.TableReading.{TypeTable}
use Rattle.gql_schema.specs.Types.{type_name}
use Rattle.gql_bench.specs.declared.numbers.Numbers.{Numbers}
use Rattle.gql_bench.specs.TypeTable.{type_in}

-- the next numbers after a type
abbrev pub after : Numbers → TypeForm → Numbers
after numbers (forms.Object form) =
    record numbers { resolver = numbers.resolver + length form.fields }
after numbers (forms.Subscription form) =
    record numbers { source = numbers.source + length form.fields }
after numbers _ = numbers

-- the next numbers after types
abbrev pub after_all : Numbers → List TypeForm → Numbers
after_all numbers [] = numbers
after_all numbers (form ∷ forms) = after_all (after numbers form) forms

-- the numbers of the first resolver and of the first source
abbrev pub first_numbers : Numbers
first_numbers = record { resolver = 0; source = 0 }

-- a table with these types, each under its name, one after another; a second one under a name takes
-- the place of the first
abbrev pub registered : TypeTable → Numbers → List TypeForm → TypeTable
registered table numbers [] = table
registered table numbers (form ∷ forms) =
    registered (put table (type_name (type_in numbers form)) (type_in numbers form))
    (after numbers form) forms

-- the types that a schema declares
abbrev pub declared_table : SchemaForm → TypeTable
declared_table schema = registered [] first_numbers schema.types
