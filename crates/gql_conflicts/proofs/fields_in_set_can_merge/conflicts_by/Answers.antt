use Rattle.std.proofs.Common.{IsTrue, sym, subst}
use Rattle.gql_conflicts.specs.DocumentConflicts.{Lists}
use Rattle.gql_conflicts.specs.Rooted.{rooted_of}
use Rattle.gql_conflicts.proofs.ListedLemmas.{none_listed}
use Rattle.gql_conflicts.proofs.fields_in_set_can_merge.conflicts_by.Goals as goal

pub returns-then-branch : goal.returns-then-branch
returns-then-branch c =
    let rooted = rooted_of c.args.rooted.now in
    let clear : IsTrue c.in_ok-is_clear.field-0 = cc in
    subst (Lists rooted c.args.doc.now c.args.levels) (sym c.new.ensures)
    (none_listed rooted c.args.doc.now c.args.levels (c.in_ok-is_clear.ensures clear))
