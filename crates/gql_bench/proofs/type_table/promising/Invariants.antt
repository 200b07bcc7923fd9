use Rattle.std.proofs.Common.{◌≡◌, drop}
use Rattle.gql_bench.specs.FieldTable.{promised_in}
use Rattle.gql_bench.proofs.FreshLemmas.{IsGoing}
use Rattle.gql_bench.proofs.type_table.promising.Given as goal

abbrev pub invariant-loop-place : goal.invariant-loop-place
invariant-loop-place l =
    IsGoing promised_in 0 l.forms l.interface.fields l.place (drop l.place l.forms) × (l.interface ≡ record l.fn.interface { fields = l.interface.fields })
