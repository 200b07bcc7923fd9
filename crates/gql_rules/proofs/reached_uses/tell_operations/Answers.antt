use Rattle.std.proofs.Common.{arith, length, refl}
use Rattle.std.proofs.lemmas.Option.{slice_get_read}
use Rattle.gql_fields.specs.Walk.{terms_in}
use Rattle.gql_fields.proofs.ToldLemmas.{flat_step}
use Rattle.gql_rules.specs.AlikeOperations.{told_listed}
use Rattle.gql_rules.proofs.reached_uses.tell_operations.Goals as goal

pub loop-listed-preserved : goal.loop-listed-preserved
loop-listed-preserved c =
    let operations = c.args.operations.now in
    let index = c.loop-listed.listed-index in
    let listed = c.listed-item.result in
    flat_step (told_listed c.args.against.now.built.now (terms_in c.args.against.now)) operations index listed c.args.found.now
    c.loop-listed.found
    c.tell_operation.new.found (slice_get_read operations (length operations) index listed refl (omega arith) c.listed-item.is)
    c.loop-listed.invariant
    c.in_ok-tell_operation.ensures
