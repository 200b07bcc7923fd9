-- Which occurrences of fields ask the same (GraphQL, October 2021, section 5.3.2): those of one
-- name and the same arguments.
use Rattle.std.specs.Prelude.{ℕ, Bool, true, false, ◌&&◌, List, ◌++◌, Option, Some, None}
use Rattle.std.specs.List.{list_all}
use Rattle.std.specs.Str.{bytes_eq}
use Rattle.gql_base.specs.Same.{is_same}
use Rattle.gql_doc.specs.contracts.document.DocValue.{the_row}
use Rattle.gql_doc.specs.declared.document.Argument.{Argument}
use Rattle.gql_doc.specs.declared.document.DocValue.{DocValue}
use Rattle.gql_doc.specs.declared.document.Field.{Field, out-Field}
use Rattle.gql_doc.specs.declared.document.Positioned.{Positioned}
use Rattle.gql_select.specs.Constants.{given}

-- the name of a field, which its alias doesn't change
abbrev pub name_of : Positioned Field → List ℕ
name_of field = (out-Field field.node).name.node

-- its arguments as they are written
abbrev pub arguments_of : Positioned Field → List Argument
arguments_of field = (out-Field field.node).arguments

-- whether two values are written alike, or both are wanting
abbrev pub same_written : Option DocValue → Option DocValue → Bool
same_written None None = true
same_written None (Some other) = false
same_written (Some one) None = false
same_written (Some one) (Some other) = is_same the_row.coded one other

-- whether each argument that stands in one of the lists has the same value in both
abbrev pub same_arguments : List Argument → List Argument → Bool
same_arguments one other =
    list_all
    (λ argument. same_written (given argument.name.node one) (given argument.name.node other))
    (one ++ other)

-- whether two occurrences ask the same
abbrev pub alike : Positioned Field → Positioned Field → Bool
alike f g = bytes_eq (name_of f) (name_of g) && same_arguments (arguments_of f) (arguments_of g)
