use Rattle.gql_objects.proofs.ObjectLevelLemmas.{known_beneath}
use Rattle.gql_objects.proofs.make_parents.level_beneath.Goals as goal

pub returns-in-Some-clause-level : goal.returns-in-Some-clause-level
returns-in-Some-clause-level c =
    known_beneath c.args.node.now c.args.levels.now c.args.object.now c.in_ok-level.field-0 c.in-Some.level c.requires
    c.in_ok-level.ensures c.in-Some.is
