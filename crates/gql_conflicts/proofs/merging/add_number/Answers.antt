use Rattle.std.proofs.Common.{IsTrue, subst}
use Rattle.std.specs.Option.{IfSome}
use Rattle.gql_conflicts.specs.Merged.{known_by}
use Rattle.gql_conflicts.specs.Sets.{HasNumber}
use Rattle.gql_conflicts.proofs.MergedLemmas.{none_added, number_added}
use Rattle.gql_conflicts.proofs.merging.add_number.Goals as goal

pub returns-then-is_leaf : goal.returns-then-is_leaf
returns-then-is_leaf c =
    let so : IsTrue c.is_leaf.result = cc in
    λ known. none_added (known_by c.args.reader.now) c.args.numbers.now.items c.args.field.now (c.is_leaf.ensures so)

pub returns : goal.returns
returns c =
    let known = known_by c.args.reader.now in
    let has = subst (λ found. IfSome found (HasNumber known c.args.field.now)) c.in-Some.is c.number_of.ensures in
    λ so. number_added known c.args.numbers.now.items c.push.new.self.items c.in-Some.number c.args.field.now c.in_ok-push.ensures.items has
