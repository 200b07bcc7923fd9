use Rattle.gql_schema.specs.Faults.{is_spare}
use Rattle.gql_lists.proofs.AllLemmas.{all_fails, all_more}
use Rattle.gql_schema.proofs.promises.has_only_optional.Goals as goal

pub returns-then-not-is_spare_argument : goal.returns-then-not-is_spare_argument
returns-then-not-is_spare_argument c =
    all_fails (is_spare c.args.promised.now) c.args.arguments.now c.loop-place.place _ c.is_spare_argument.result c.at.ensures c.is_spare_argument.ensures c.if-not-is_spare_argument.true

pub loop-place-preserved : goal.loop-place-preserved
loop-place-preserved c =
    all_more (is_spare c.args.promised.now) c.args.arguments.now c.loop-place.place _ c.is_spare_argument.result c.loop-place.invariant c.at.ensures c.is_spare_argument.ensures
    c.if-not-is_spare_argument.false
