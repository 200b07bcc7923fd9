use Rattle.std.proofs.Common.{ap, ◌∙◌}
use Rattle.gql_select.specs.Collected.{own_selections}
use Rattle.gql_collect.specs.Groups.{united}
use Rattle.gql_objects.specs.CompletedObjects.{shape_asked}
use Rattle.gql_objects.specs.Parents.{standing_at}
use Rattle.gql_complete.specs.FoundObjects.{bare}
use Rattle.gql_objects.specs.Tasks.{jobs_in, path_with}
use Rattle.gql_objects.proofs.CompletedLemmas.{completed_below, completed_parents, completed_tasks}
use Rattle.gql_objects.proofs.complete_answer.place_completed.Goals as goal

pub returns : goal.returns
returns g c =
    let whole = c.in_ok-whole.whole in
    let due = shape_asked c.args.node.now c.args.outcome in
    let path = path_with c.args.held.now c.args.node.now in
    let start = c.new-found.result.items in
    let found = c.take_apart.new.found.items in
    let at = standing_at c.args.node.now.basis (own_selections (united c.args.node.now.group)) in record {
      shape_is = c.of.ensures ∙ c.in_ok-shape.ensures.bare ∙ ap bare c.in_ok-whole.ensures;
      parents_are = completed_parents whole due path start found c.in_ok-whole.ensures c.new-found.ensures.items
          c.in_ok-shape.ensures.found at _ c.in_ok-parents.ensures.parents;
      tasks_are =
          completed_tasks whole due path start found c.in_ok-whole.ensures c.new-found.ensures.items c.in_ok-shape.ensures.found at
          (jobs_in c.args.tasks.now.items) (jobs_in c.place_found.new.tasks.items) c.in_ok-parents.ensures.tasks;
      below = completed_below whole due path start found c.in_ok-whole.ensures c.new-found.ensures.items c.in_ok-shape.ensures.found;
    }
