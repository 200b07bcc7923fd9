use Rattle.std.proofs.Common.{◌≡◌, ◌-◌, suc, ap, arith, ◌∙◌}
use Rattle.gql_select.specs.Behind.{all_behind}
use Rattle.gql_conflicts.proofs.WalkedLemmas.{walks_set}
use Rattle.gql_conflicts.proofs.walk.add_in_set.Goals as goal

pub returns : goal.returns
returns c =
    let one : c.args.left ≡ suc (c.args.left - 1) = omega (arith, c.if-left-eq0.false) in
    walks_set c.args.reader.now c.add_among.result c.args.left (c.args.left - 1) c.args.selections.now c.args.object.now
    (all_behind c.as_slice.result.now) c.args.walked.now c.add_among.new.walked one (ap all_behind c.as_slice.ensures.value ∙ c.in_ok-fields.ensures)
    c.add_among.ensures
