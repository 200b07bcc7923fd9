use Rattle.std.proofs.Common.{◌≡◌, drop}
use Rattle.gql_bench.specs.FieldTable.{event_field_in}
use Rattle.gql_bench.proofs.FreshLemmas.{IsGoing}
use Rattle.gql_bench.proofs.type_table.with_event_fields.Given as goal

abbrev pub invariant-loop-place : goal.invariant-loop-place
invariant-loop-place l =
    IsGoing event_field_in l.fn.number l.forms l.subscription.fields l.number (drop l.place l.forms) × (l.subscription ≡ record l.fn.subscription { fields = l.subscription.fields })
