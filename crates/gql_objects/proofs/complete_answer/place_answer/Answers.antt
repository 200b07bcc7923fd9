use Rattle.std.proofs.Common.{ap, sym, subst, IfOk, ◌∙◌}
use Rattle.gql_meaning.specs.Completion.{Completed, shape_of}
use Rattle.gql_schema.specs.Table.{types_of}
use Rattle.gql_complete.specs.ObjectLists.{items_given, objects_in}
use Rattle.gql_objects.specs.CompletedObjects.{IsPlaced}
use Rattle.gql_objects.specs.Tasks.{jobs_in, path_with}
use Rattle.gql_objects.proofs.complete_answer.place_answer.Goals as goal

pub returns-in-Some : goal.returns-in-Some
returns-in-Some g c =
    let node = c.args.node.now in
    let outcome = c.args.outcome in
    subst (λ (w : Completed g.row.V.Denot). IfOk c.place_list.result
    (IsPlaced node (path_with c.args.held.now node) (jobs_in c.args.tasks.now.items) (jobs_in c.place_list.new.tasks.items) w))
    (ap (λ name. objects_in name c.in-Some.non_null (items_given outcome)) (sym c.known_of-known.ensures.name)
    ∙ sym c.in-Some.ensures
    ∙ (λ i. shape_of (types_of (c.known_of-known.ensures.types i)) (c.ty.ensures i) outcome))
    c.place_list.ensures
