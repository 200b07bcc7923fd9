use Rattle.std.proofs.Common.{ap, ◌∙◌}
use Rattle.gql_objects.specs.Tasks.{jobs_in}
use Rattle.gql_collect.specs.declared.level.Level.{Level}
use Rattle.gql_objects.specs.declared.parent.Parent.{Parent}
use Rattle.gql_objects.proofs.TaskLemmas.{tasks_end}
use Rattle.gql_objects.proofs.task_making.make_tasks.Goals as goal

pub returns : goal.returns
returns g c =
    tasks_end c.args.parent.now.value c.as_slice-node-items.result.now c.loop-node.node-index (jobs_in c.args.tasks.now.items)
    (jobs_in c.loop-node.tasks.items)
    (c.as_slice-node-items.ensures.value ∙ ap (λ (l : Level). l.nodes.items)
    (c.deref-2.ensures ∙ ap (λ (p : Parent g.row.V.Denot). p.level.value) c.deref.ensures))
    c.loop-node-test.false c.loop-node.invariant
