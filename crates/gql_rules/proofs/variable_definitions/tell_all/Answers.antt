use Rattle.std.proofs.Common.{None}
use Rattle.gql_base.specs.Pairs.{values_of}
use Rattle.gql_fields.specs.Walk.{terms_in}
use Rattle.gql_fields.proofs.ToldLemmas.{flat_step}
use Rattle.gql_fields.proofs.PairLemmas.{value_at}
use Rattle.gql_rules.specs.VariableDefinitions.{told_of_operation}
use Rattle.gql_rules.proofs.variable_definitions.tell_all.Goals as goal

pub loop-place-preserved : goal.loop-place-preserved
loop-place-preserved c =
    flat_step (told_of_operation (terms_in c.args.against.now) None) (values_of c.args.operations.now) c.loop-place.place c.at.result.1.now
    c.args.found.now c.loop-place.found c.tell_operation.new.found (value_at c.args.operations.now c.loop-place.place _ _ c.at.ensures)
    c.loop-place.invariant c.in_ok-tell_operation.ensures
