use Rattle.std.proofs.Common.{◌≡◌, drop}
use Rattle.gql_bench.specs.FieldTable.{input_in}
use Rattle.gql_bench.proofs.FreshLemmas.{IsGoing}
use Rattle.gql_bench.proofs.type_table.with_input_fields.Given as goal

abbrev pub invariant-loop-place : goal.invariant-loop-place
invariant-loop-place l =
    IsGoing input_in 0 l.forms l.input.fields l.place (drop l.place l.forms) × (l.input ≡ record l.fn.input { fields = l.input.fields })
