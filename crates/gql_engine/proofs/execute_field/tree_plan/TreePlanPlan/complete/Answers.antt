use Rattle.std.proofs.Common.{◌<◌, inr, List, ap, arith, length, refl, subst, sym}
use Rattle.std.proofs.lemmas.List.{length-map}
use Rattle.std.proofs.lemmas.Option.{slice_get_read}
use Rattle.gql_tasks.specs.Plan.{HasMade}
use Rattle.gql_place.specs.declared.piece.Piece.TheVariants as piece
use Rattle.gql_engine.specs.GivenTasks.{made_beneath}
use Rattle.gql_engine.specs.PlanHolds.{HoldsGiven}
use Rattle.gql_objects.specs.KeptTasks.{store_in}
use Rattle.gql_objects.specs.Tasks.{job_of_task, jobs_in}
use Rattle.gql_objects.specs.declared.task.Task.{Task}
use Rattle.gql_engine.proofs.PlanLemmas.{alone_has, alone_holds, alone_keeps, kept_holds, kept_keeps, kept_made, puts_alone}
use Rattle.gql_engine.proofs.execute_field.tree_plan.TreePlanPlan.complete.Goals as goal

pub returns-in_ok-put_piece-in-Ok-clause-made : goal.returns-in_ok-put_piece-in-Ok-clause-made
returns-in_ok-put_piece-in-Ok-clause-made g c = λ task is.
    let tasks = c.args.self.now.tasks.items in
    let within : c.args.number < length tasks = (let l = length-map tasks job_of_task in let r = c.requires in omega arith) in
    let done =
    puts_alone tasks c.args.self.now.places.items c.put_piece.new.self.places.items c.args.number c.index.result.now c.args.given (piece.Data c.in-Ok.value)
    (slice_get_read tasks (length tasks) c.args.number c.index.result.now refl within c.index.ensures) c.in-Ok.ensures c.in_ok-put_piece-in-Ok.ensures.puts in
    subst (λ (ts : List (Task g.row.V.Denot)). HasMade (jobs_in tasks) (jobs_in ts) (made_beneath c.args.given task) 0)
    (sym (ap (λ v. v.items) c.in_ok-put_piece-in-Ok.ensures.tasks)) (alone_has done task is)

pub returns-in_ok-put_piece-in-Ok-clause-holds : goal.returns-in_ok-put_piece-in-Ok-clause-holds
returns-in_ok-put_piece-in-Ok-clause-holds g c =
    let tasks = c.args.self.now.tasks.items in
    let within : c.args.number < length tasks = (let l = length-map tasks job_of_task in let r = c.requires in omega arith) in
    let done =
    puts_alone tasks c.args.self.now.places.items c.put_piece.new.self.places.items c.args.number c.index.result.now c.args.given (piece.Data c.in-Ok.value)
    (slice_get_read tasks (length tasks) c.args.number c.index.result.now refl within c.index.ensures) c.in-Ok.ensures c.in_ok-put_piece-in-Ok.ensures.puts in
    inr (subst (λ (ts : List (Task g.row.V.Denot)). HoldsGiven (jobs_in ts) (store_in c.put_piece.new.self.kept.items c.put_piece.new.self.places.items) c.args.number c.args.given)
    (sym (ap (λ v. v.items) c.in_ok-put_piece-in-Ok.ensures.tasks)) (alone_holds done c.put_piece.new.self.kept.items))

pub returns-in_ok-put_piece-in-Ok-clause-keeps : goal.returns-in_ok-put_piece-in-Ok-clause-keeps
returns-in_ok-put_piece-in-Ok-clause-keeps g c = λ other given differs held.
    let tasks = c.args.self.now.tasks.items in
    let within : c.args.number < length tasks = (let l = length-map tasks job_of_task in let r = c.requires in omega arith) in
    let done =
    puts_alone tasks c.args.self.now.places.items c.put_piece.new.self.places.items c.args.number c.index.result.now c.args.given (piece.Data c.in-Ok.value)
    (slice_get_read tasks (length tasks) c.args.number c.index.result.now refl within c.index.ensures) c.in-Ok.ensures c.in_ok-put_piece-in-Ok.ensures.puts in
    alone_keeps done c.args.self.now.base c.put_piece.new.self.base (ap (λ v. v.items) c.in_ok-put_piece-in-Ok.ensures.tasks) (ap (λ v. v.items) c.in_ok-put_piece-in-Ok.ensures.kept)
    c.in_ok-put_piece-in-Ok.ensures.base other given differs held

pub returns-in-Err-clause-made : goal.returns-in-Err-clause-made
returns-in-Err-clause-made g c = λ task is. kept_made c.args.self.now c.complete_given.new.self c.args.number c.in-Err.given c.args.given c.complete_given.result c.complete_given.ensures c.in-Err.ensures task is

pub returns-in-Err-clause-holds : goal.returns-in-Err-clause-holds
returns-in-Err-clause-holds g c = kept_holds c.args.self.now c.complete_given.new.self c.args.number c.in-Err.given c.args.given c.complete_given.result c.complete_given.ensures c.in-Err.ensures

pub returns-in-Err-clause-keeps : goal.returns-in-Err-clause-keeps
returns-in-Err-clause-keeps g c = kept_keeps c.args.self.now c.complete_given.new.self c.args.number c.in-Err.given c.args.given c.complete_given.result c.complete_given.ensures
