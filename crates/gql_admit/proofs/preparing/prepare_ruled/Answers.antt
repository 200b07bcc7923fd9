use Rattle.std.proofs.Common.{ap, sym, ◌∙◌}
use Rattle.gql_admit.specs.Choice.{choice}
use Rattle.gql_admit.proofs.NestingLemmas.{chosen_nests}
use Rattle.gql_admit.proofs.preparing.prepare_ruled.Goals as goal

pub prepare_chosen-requires-clause-deep : goal.prepare_chosen-requires-clause-deep
prepare_chosen-requires-clause-deep c =
    chosen_nests c.args.document c.args.site.now.depth c.args.request.now.operation_name
    c.in-Ok.chosen c.requires.deep
    (sym c.in-Ok.is ∙ c.in_ok-chosen.ensures ∙ ap (choice c.args.document) c.asked_name.ensures)
