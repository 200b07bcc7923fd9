use Rattle.std.proofs.Common.{ℕ, List}
use Rattle.gql_schema.specs.Faults.{promise_fault}
use Rattle.gql_schema.specs.Interface.{promised_fields}
use Rattle.gql_schema.specs.declared.interface_field.InterfaceField.{InterfaceField}
use Rattle.gql_schema.specs.Table.{types_of}
use Rattle.gql_lists.proofs.FirstLemmas.{first_here, first_more}
use Rattle.gql_schema.proofs.promises.check_promises.Goals as goal

pub returns-then-is_some : goal.returns-then-is_some
returns-then-is_some c =
    first_here (λ (p : List ℕ × InterfaceField). promise_fault (types_of c.args.types.now) c.args.object.now c.args.interface.now p.1) (promised_fields c.args.interface.now) c.loop-place.place _ c.in_ok-found.found c.is_some.result c.loop-place.invariant c.entry.ensures
    c.in_ok-found.ensures c.is_some.ensures c.if-is_some.true

pub loop-place-preserved : goal.loop-place-preserved
loop-place-preserved c =
    first_more (λ (p : List ℕ × InterfaceField). promise_fault (types_of c.args.types.now) c.args.object.now c.args.interface.now p.1) (promised_fields c.args.interface.now) c.loop-place.place _ c.in_ok-found.found c.is_some.result c.loop-place.invariant c.entry.ensures
    c.in_ok-found.ensures c.is_some.ensures c.if-is_some.false
