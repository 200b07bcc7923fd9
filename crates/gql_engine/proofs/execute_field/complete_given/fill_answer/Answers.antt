use Rattle.std.proofs.Common.{refl, ap, ◌∙◌}
use Rattle.gql_base.specs.TypeRef.{is_nullable}
use Rattle.gql_meaning.specs.Completion.{shape_of}
use Rattle.gql_schema.specs.Table.{types_of}
use Rattle.gql_collect.specs.Asks.{type_in}
use Rattle.gql_complete.specs.FoundObjects.{spots}
use Rattle.gql_objects.specs.Tasks.{jobs_in, path_with}
use Rattle.gql_engine.proofs.GivenLemmas.{takes_deep, takes_filled, takes_jobs, takes_placed}
use Rattle.gql_engine.proofs.execute_field.complete_given.fill_answer.Goals as goal

pub returns-clause-filled : goal.returns-clause-filled
returns-clause-filled g c =
    let parent = c.args.parent.now in
    let node = c.args.node.now in
    let table = types_of node.basis.types.now in
    let whole = shape_of table (type_in node.asks) c.args.answer.result in
    let placed = c.in_ok-placed.ensures in
    takes_filled parent node c.args.answer whole (spots whole (path_with parent.held node)) (takes_placed parent node c.args.answer _ _ _ placed) _ c.is_nullable.result
    refl (c.is_nullable.ensures ∙ ap is_nullable c.ty.ensures) refl refl refl c.keeps_whole.ensures placed.shape_is placed.parents_are

pub returns-clause-tasks : goal.returns-clause-tasks
returns-clause-tasks g c =
    let parent = c.args.parent.now in
    let node = c.args.node.now in
    let table = types_of node.basis.types.now in
    let whole = shape_of table (type_in node.asks) c.args.answer.result in
    let placed = c.in_ok-placed.ensures in
    takes_jobs parent node c.args.answer whole (spots whole (path_with parent.held node)) (takes_placed parent node c.args.answer _ _ _ placed)
    (jobs_in c.args.tasks.now.items) (jobs_in c.place_answer.new.tasks.items) placed.tasks_are

pub returns-clause-deep : goal.returns-clause-deep
returns-clause-deep g c =
    let parent = c.args.parent.now in
    let node = c.args.node.now in
    let table = types_of node.basis.types.now in
    let whole = shape_of table (type_in node.asks) c.args.answer.result in
    let placed = c.in_ok-placed.ensures in
    takes_deep parent node c.args.answer whole (spots whole (path_with parent.held node)) (takes_placed parent node c.args.answer _ _ _ placed)
