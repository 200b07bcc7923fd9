use Rattle.std.proofs.Common.{◌≡◌, drop}
use Rattle.gql_bench.specs.FieldTable.{arguments_behind}
use Rattle.gql_bench.proofs.field_table.with_arguments.Given as goal

abbrev pub invariant-loop-form : goal.invariant-loop-form
invariant-loop-form l =
    record l.fn.field { arguments = arguments_behind l.fn.field.arguments l.forms }
    ≡ record l.field { arguments = arguments_behind l.field.arguments (drop l.form-index l.forms) }
