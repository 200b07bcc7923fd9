use Rattle.std.proofs.Common.{refl, subst}
use Rattle.std.specs.Option.{IfSome}
use Rattle.gql_select.specs.Collected.{own_selections}
use Rattle.gql_conflicts.specs.Groups.{united}
use Rattle.gql_conflicts.specs.Merged.{known_by}
use Rattle.gql_conflicts.specs.Sets.{HaveSame, sets_at}
use Rattle.gql_conflicts.proofs.merging.merged_of.Goals as goal

pub returns-in-Some : goal.returns-in-Some
returns-in-Some c = record {
  left_is = refl;
  ty_is = refl;
  has =
      subst (λ found. IfSome found (λ numbers. HaveSame (sets_at (known_by c.args.reader.now) numbers.items) (own_selections (united c.args.group.now))))
      c.in-Some.is c.in_ok-found.ensures;
}
