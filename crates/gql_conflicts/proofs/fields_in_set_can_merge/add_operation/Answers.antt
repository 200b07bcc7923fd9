use Rattle.std.proofs.Common.{ap, sym, ◌∙◌}
use Rattle.std.specs.Option.{option_copied}
use Rattle.gql_conflicts.proofs.WalkedLemmas.{walks_root, walks_rootless}
use Rattle.gql_conflicts.proofs.fields_in_set_can_merge.add_operation.Goals as goal

pub returns-in-None : goal.returns-in-None
returns-in-None c = λ nest.
    walks_rootless c.args.reader.now c.args.operation.now c.args.walked.now (sym c.root_of.ensures ∙ ap option_copied c.in-None.is)

pub returns-in-Some : goal.returns-in-Some
returns-in-Some c =
    walks_root c.args.reader.now c.add_in_set.result c.args.operation.now c.in-Some.root.now c.as_slice-selections.result.now c.args.walked.now
    c.add_in_set.new.walked (sym c.root_of.ensures ∙ ap option_copied c.in-Some.is) c.as_slice-selections.ensures c.add_in_set.ensures
