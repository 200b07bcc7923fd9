-- What a field shows as it is declared.
use Rattle.gql_schema.specs.TableReading.{Declared}
use Rattle.gql_schema.specs.declared.declared_field.DeclaredField.{DeclaredField}

abbrev pub declared_behind : DeclaredField → Declared
declared_behind field =
    record { ty = field.ty.now; number = field.number; arguments = field.arguments.now }
