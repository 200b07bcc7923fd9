use Rattle.gql_fields.specs.ArgumentViews.{bearing_behind, table_behind}
use Rattle.gql_fields.proofs.ArgumentLemmas.{arguments_told}
use Rattle.gql_fields.proofs.ToldLemmas.{on_ok}
use Rattle.gql_fields.proofs.arguments.tell_arguments.Goals as goal

pub returns : goal.returns
returns c =
    on_ok c.tell_missing.result _ _
    (arguments_told (table_behind c.args.bearing.now) (bearing_behind c.args.bearing.now) c.args.arguments.now c.tell_given.new.given
    c.args.found.now
    c.tell_given.new.found c.tell_missing.new.found c.in_ok-tell_given.ensures.given c.in_ok-tell_given.ensures.found)
    c.tell_missing.ensures
