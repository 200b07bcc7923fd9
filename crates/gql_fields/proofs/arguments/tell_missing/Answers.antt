use Rattle.gql_fields.specs.ArgumentViews.{bearing_behind}
use Rattle.gql_fields.specs.Arguments.{told_of_missing}
use Rattle.gql_fields.proofs.ToldLemmas.{flat_step}
use Rattle.gql_fields.proofs.arguments.tell_missing.Goals as goal

pub loop-place-preserved : goal.loop-place-preserved
loop-place-preserved c =
    flat_step (told_of_missing (bearing_behind c.args.bearing.now) c.args.given.now) c.args.bearing.now.declared.now c.loop-place.place
    (c.at.result.0.now, c.at.result.1.now) c.args.found.now c.loop-place.found c.tell_if_missing.new.found c.at.ensures
    c.loop-place.invariant
    c.in_ok-tell_if_missing.ensures
