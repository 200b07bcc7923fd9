use Rattle.std.proofs.Common.{Some, ap, ◌∙◌}
use Rattle.gql_admit.proofs.ChoiceLemmas.{name_found, name_missing}
use Rattle.gql_admit.proofs.operation.choose_named.Goals as goal

pub returns-in_ok-choice_error-in-None : goal.returns-in_ok-choice_error-in-None
returns-in_ok-choice_error-in-None c =
    name_missing c.args.fragments c.args.operations c.args.name.now _ c.in-None.ensures.place c.in_ok-choice_error-in-None.ensures

pub returns-in_ok-name-in-Some : goal.returns-in_ok-name-in-Some
returns-in_ok-name-in-Some c =
    name_found c.args.fragments c.args.operations c.args.name.now c.in-Some.place c.chosen_at.result c.in-Some.ensures.place
    c.chosen_at.ensures.operation (c.chosen_at.ensures.name ∙ ap Some c.in_ok-name-in-Some.ensures) c.chosen_at.ensures.fragments
