use Rattle.std.proofs.Common.{◌≡◌, drop}
use Rattle.gql_bench.specs.FieldTable.{field_in}
use Rattle.gql_bench.proofs.FreshLemmas.{IsGoing}
use Rattle.gql_bench.proofs.type_table.with_fields.Given as goal

abbrev pub invariant-loop-place : goal.invariant-loop-place
invariant-loop-place l =
    IsGoing field_in l.fn.number l.forms l.object.fields l.number (drop l.place l.forms) × (l.object ≡ record l.fn.object { fields = l.object.fields })
