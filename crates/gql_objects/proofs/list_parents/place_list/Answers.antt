use Rattle.std.proofs.Common.{refl, ◌∙◌}
use Rattle.gql_base.specs.TypeRef.{innermost}
use Rattle.gql_collect.specs.Asks.{type_in}
use Rattle.gql_complete.specs.ObjectLists.{items_given}
use Rattle.gql_objects.specs.Tasks.{jobs_in, path_with}
use Rattle.gql_objects.proofs.BareLemmas.{some_objects}
use Rattle.gql_objects.proofs.ListParentLemmas.{list_below, list_parents, list_shape, list_tasks}
use Rattle.gql_objects.proofs.list_parents.place_list.Goals as goal

pub returns : goal.returns
returns g c =
    let shared = c.in_ok-shared.shared in
    let node = c.args.node.now in
    let object = innermost (type_in node.asks) in
    let level = c.in_ok-shared.ensures.level in
    let path = path_with c.args.held.now c.args.node.now in
    let steps = c.in_ok-shared.ensures.path in
    let items = items_given c.args.outcome in
    let parents = c.in_ok-parents.parents.items in record {
      shape_is =
          c.objects.ensures
          ∙ list_shape shared node object level path steps c.args.non_null items parents c.len.result (some_objects c.len.result)
          c.in_ok-parents.ensures.parents
          (c.len.ensures ∙ c.in_ok-parents.parents.ok.0) refl;
      parents_are = list_parents shared node object level path steps c.args.non_null items parents c.in_ok-parents.ensures.parents;
      tasks_are =
          list_tasks shared node object level path steps c.args.non_null items (jobs_in c.args.tasks.now.items)
          (jobs_in c.place_objects.new.tasks.items)
          c.in_ok-parents.ensures.tasks;
      below = list_below shared node object level path steps c.args.non_null items;
    }
