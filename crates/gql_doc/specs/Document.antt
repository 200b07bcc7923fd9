-- What the parts of a document answer.
use Rattle.std.specs.Prelude.{ℕ, List, Option, Some, None, if◌then◌else◌, find}
use Rattle.std.specs.Str.{bytes_eq}
use Rattle.gql_base.specs.declared.name.Name.{Name}
use Rattle.gql_base.specs.declared.type_ref.TypeRef.{TypeRef}
use Rattle.gql_base.specs.declared.value.Value.{Value}
use Rattle.gql_base.specs.TypeRef.{is_nullable}
use Rattle.gql_doc.specs.declared.document.Positioned.{Positioned}
use Rattle.gql_doc.specs.declared.document.Field.{Field, out-Field}
use Rattle.gql_doc.specs.declared.document.VariableDefinition.{VariableDefinition}
use Rattle.gql_doc.specs.declared.document.Argument.{Argument}

-- the alias, else the name (section 2.7)
abbrev pub alias_or : Option (Positioned Name) → Positioned Name → Positioned Name
alias_or None name = name
alias_or (Some alias) name = alias

abbrev pub key_of : Field → Positioned Name
key_of field = alias_or (out-Field field).alias (out-Field field).name

-- the default of a variable; without one `nothing`, the null value, where the type is nullable
-- (section 6.1.2)
abbrev pub default_or : Option (Positioned Value) → TypeRef → Value → Option Value
default_or (Some default) ty nothing = Some default.node
default_or None ty nothing = if is_nullable ty then Some nothing else None

abbrev pub default_of : VariableDefinition → Value → Option Value
default_of definition nothing = default_or definition.default definition.var_type.node nothing

-- the first argument of the name
abbrev pub argument_named : List ℕ → List Argument → Option Argument
argument_named name arguments = find (λ argument. bytes_eq argument.name.node name) arguments
