use Rattle.std.proofs.Common.{◌≡◌, ◌∙◌, IfOk, ap, subst}
use Rattle.gql_select.specs.Behind.{all_behind}
use Rattle.gql_select.specs.Once.{collect_once}
use Rattle.gql_collect.specs.CollectOnce.{selections_of_all, whole_setting}
use Rattle.gql_collect.proofs.collect_once.collect_counted.Goals as goal

pub returns-clause-fields : goal.returns-clause-fields
returns-clause-fields g c =
    subst (λ collected. IfOk c.copies.result (λ fields. fields ≡ collected))
    (ap all_behind c.as_slice.ensures.value ∙ c.in_ok-fields.ensures.fields
    ∙ ap (λ name. collect_once (whole_setting c.args.types.now c.args.fragments.now) name (selections_of_all c.args.sets.now)) c.type_name.ensures)
    c.copies.ensures
