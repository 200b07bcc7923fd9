use Rattle.std.proofs.Common.{◌≡◌, ◌<◌, ◌∙◌, Some, ap, arith, length, refl, slice_get}
use Rattle.std.proofs.lemmas.List.{length-map}
use Rattle.std.proofs.lemmas.Option.{slice_get_read}
use Rattle.gql_collect.specs.Asks.{arguments_in, resolver_in}
use Rattle.gql_collect.specs.Groups.{united}
use Rattle.gql_objects.specs.Parents.{value_of}
use Rattle.gql_objects.specs.Tasks.{job_of_task}
use Rattle.gql_collect.specs.declared.level.Node.{Node}
use Rattle.gql_objects.specs.declared.parent.Parent.{Parent}
use Rattle.gql_engine.proofs.ContextLemmas.{context_is, context_of}
use Rattle.gql_engine.proofs.execute_field.tree_plan.TreePlanPlan.context.Goals as goal

pub returns : goal.returns
returns g c = λ job is.
    let tasks = c.args.self.now.tasks.items in
    let task = c.index-task.result.now in
    let within : c.args.number < length tasks = (let l = length-map tasks job_of_task in let r = c.requires.within in omega arith) in
    let there : slice_get tasks c.args.number ≡ Some task = slice_get_read tasks (length tasks) c.args.number task refl within c.index-task.ensures in
    let node = c.as_ref-node.ensures in
    context_of tasks c.args.number task job _ there is
    (context_is c.args.number task _
    (c.resolver.ensures ∙ ap (λ (n : Node). resolver_in n.asks) node)
    (c.new-args.ensures ∙ c.arguments.ensures ∙ ap (λ (n : Node). arguments_in n.asks) node)
    (c.value_in.ensures ∙ ap (λ (p : Parent g.row.V.Denot). value_of p.held) c.deref.ensures)
    (ap (λ (n : Node). n.basis.layers) node) (ap (λ (n : Node). n.basis.env.now) node) refl
    (c.as_slice.ensures.value ∙ c.requires.aimed task there)
    (c.item_at.ensures ∙ ap (λ (n : Node). (united n.group).node) node))
