use Rattle.std.proofs.Common.{◌≡◌, ◌++◌, List, map, subst, IfOk, OnOk}
use Rattle.std.specs.List.{flat_map}
use Rattle.gql_resolve.specs.declared.field_value.FieldValue.{FieldValue}
use Rattle.gql_objects.specs.ListParents.{items_standing}
use Rattle.gql_objects.specs.Parents.{jobs_of_standing, standing_behind}
use Rattle.gql_objects.specs.Tasks.{jobs_in}
use Rattle.gql_objects.specs.declared.task.Task.{Task}
use Rattle.gql_objects.proofs.ValueLemmas.{values_behind}
use Rattle.gql_objects.proofs.list_parents.place_value.Goals as goal

pub returns-clause-parents : goal.returns-clause-parents
returns-clause-parents g c =
    subst (λ (items : List (FieldValue g.row.V.Denot)). IfOk c.place_values.result
    (λ parents. map standing_behind parents.items ≡ items_standing c.args.shared.now 0 items))
    (values_behind g.row.V.Denot c.args.value c.in_ok-values.values c.in_ok-values.ensures) c.place_values.ensures.parents

pub returns-clause-tasks : goal.returns-clause-tasks
returns-clause-tasks g c =
    subst (λ (old : List (Task g.row.V.Denot)). OnOk c.place_values.result (jobs_in c.place_values.new.tasks.items ≡ jobs_in old
    ++ flat_map jobs_of_standing (items_standing c.args.shared.now 0
    (Rattle.gql_complete.specs.ObjectLists.items_behind
    (Rattle.std.specs.Prelude.Some (Rattle.gql_resolve.specs.declared.field_value.FieldValue.TheVariants.Value c.args.value))))))
    c.in_ok-reserve_tasks.ensures
    (subst (λ (items : List (FieldValue g.row.V.Denot)). OnOk c.place_values.result
    (jobs_in c.place_values.new.tasks.items ≡ jobs_in c.reserve_tasks.new.tasks.items
    ++ flat_map jobs_of_standing (items_standing c.args.shared.now 0 items)))
    (values_behind g.row.V.Denot c.args.value c.in_ok-values.values c.in_ok-values.ensures) c.place_values.ensures.tasks)
