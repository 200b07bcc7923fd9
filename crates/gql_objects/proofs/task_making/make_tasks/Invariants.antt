use Rattle.std.proofs.Common.{◌≡◌, ◌++◌, map, take}
use Rattle.gql_objects.specs.Jobs.{jobs_by_as}
use Rattle.gql_collect.specs.Levels.{asked_behind}
use Rattle.gql_objects.specs.Parents.{rooted, standing_behind}
use Rattle.gql_objects.specs.Tasks.{jobs_in}
use Rattle.gql_objects.proofs.task_making.make_tasks.Given as goal

abbrev pub invariant-loop-node : goal.invariant-loop-node
invariant-loop-node g l =
    jobs_in l.tasks.items ≡ jobs_in l.initial.tasks.items ++ jobs_by_as (rooted l.parent.value.held) (standing_behind l.parent).spot
    (map asked_behind (take l.node-index l.node-items))
