use Rattle.std.proofs.Common.{◌∙◌, ◌<◌, ◌++◌, inr, ◌∷◌, [], List, None, ap, arith, length, length-append, refl, subst, sym}
use Rattle.std.proofs.lemmas.List.{length-map}
use Rattle.std.proofs.lemmas.Option.{slice_get_read}
use Rattle.gql_tasks.specs.Plan.{HasMade}
use Rattle.gql_engine.specs.GivenTasks.{made_beneath}
use Rattle.gql_engine.specs.PlanHolds.{ComesAlone, HoldsGiven}
use Rattle.gql_objects.specs.KeptTasks.{store_in}
use Rattle.gql_objects.specs.PlaceStore.{PutsAt}
use Rattle.gql_objects.specs.Tasks.{job_of_task, jobs_in}
use Rattle.gql_objects.specs.declared.assembly.kept.Kept.{Kept}
use Rattle.gql_objects.specs.declared.task.Task.{Task}
use Rattle.gql_engine.proofs.PlanLemmas.{alone_has, alone_holds, Completes, completes_deep, completes_has, completes_holds, completes_keeps_since, completes_laid, completes_task, alone_keeps, no_items, puts_alone, PutsAlone}
use Rattle.gql_engine.proofs.execute_field.tree_plan.TreePlan.complete_given.Goals as goal

-- what came to no object has its place
alone : (g : _) (c : goal.After-drop-more-then-is_empty g)
    → PutsAlone g.row.V.Denot c.args.self.now.tasks.items c.args.self.now.places.items c.put_piece.new.self.places.items c.args.number (job_of_task c.index.result.now) c.args.given
alone g c =
    let tasks = c.args.self.now.tasks.items in
    let task = c.index.result.now in
    let filled = c.in_ok-filled.filled in
    let within : c.args.number < length tasks = (let l = length-map tasks job_of_task in let r = c.requires in omega arith) in
    let comes : ComesAlone c.args.given (job_of_task task) c.in_ok-piece_alone.field-0 = record {
      filled = filled;
      fits = c.in_ok-filled.ensures.filled;
      none = no_items filled.parents.items (Rattle.std.specs.Vec.vec_len filled.parents) filled.parents.ok.0 c.if-is_empty.ensures;
      made = c.in_ok-piece_alone.ensures;
    } in
    puts_alone tasks c.args.self.now.places.items c.put_piece.new.self.places.items c.args.number task c.args.given c.in_ok-piece_alone.field-0
    (slice_get_read tasks (length tasks) c.args.number task refl within c.index.ensures) comes c.in_ok-put_piece.ensures.puts

pub returns-then-is_empty : goal.returns-then-is_empty
returns-then-is_empty g c = record {
  made = λ task is.
      subst (λ (ts : List (Task g.row.V.Denot)). HasMade (jobs_in c.args.self.now.tasks.items) (jobs_in ts) (made_beneath c.args.given task) 0)
      (sym (ap (λ v. v.items) c.in_ok-put_piece.ensures.tasks)) (alone_has (alone g c) task is);
  holds =
      inr (subst (λ (ts : List (Task g.row.V.Denot)). HoldsGiven (jobs_in ts) (store_in c.put_piece.new.self.kept.items c.put_piece.new.self.places.items) c.args.number c.args.given)
      (sym (ap (λ v. v.items) c.in_ok-put_piece.ensures.tasks)) (alone_holds (alone g c) c.put_piece.new.self.kept.items));
  keeps = λ other given differs held.
      alone_keeps (alone g c) c.args.self.now.base c.put_piece.new.self.base (ap (λ v. v.items) c.in_ok-put_piece.ensures.tasks) (ap (λ v. v.items) c.in_ok-put_piece.ensures.kept)
      c.in_ok-put_piece.ensures.base other given differs held;
}

pub invariant_of-self-2 : goal.invariant_of-self-2
invariant_of-self-2 g c =
    let tasks = c.args.self.now.tasks.items in
    let task = c.index.result.now in
    let given = c.args.given in
    let k : Kept g.row.V.Denot
    = record { number = c.args.number; first = c.len-first.result; count = c.len-count.result; filled = c.in_ok-filled.filled } in
    let within : c.args.number < length tasks = (let l = length-map tasks job_of_task in let r = c.requires in omega arith) in
    let done =
    completes_task tasks c.append.new.self.items c.fill_given.new.tasks.items c.args.self.now.kept.items c.push_reserved.new.self.items
    c.args.self.now.places.items c.open_place.new.places.items k task given
    (slice_get_read tasks (length tasks) c.args.number task refl within c.index.ensures)
    c.in_ok-append.ensures.items
    (c.push_reserved.ensures.items ∙ ap (λ ks. ks ++ k ∷ []) c.in_ok-reserve.ensures.items)
    (subst (λ places. PutsAt None c.args.number places c.open_place.new.places.items) c.in_ok-reserve_places.ensures c.open_place.ensures.opens)
    (c.len-first.ensures ∙ c.args.self.now.tasks.ok.0)
    (c.len-count.ensures ∙ c.fill_given.new.tasks.ok.0)
    (c.in_ok-filled.ensures.tasks ∙ ap (λ ts. jobs_in ts ++ made_beneath given (job_of_task task)) c.new-more.ensures.items)
    c.in_ok-filled.ensures.filled c.in_ok-filled.ensures.deep in
    record {
      laid = completes_laid done c.args.self.now.roots c.args.self.now.laid;
      deep = completes_deep done c.args.self.now.roots c.args.self.now.deep;
      within =
          let l = c.open_place.ensures.length in
          let m = ap length c.in_ok-reserve_places.ensures in
          let w = c.args.self.now.within in
          let a = ap length c.in_ok-append.ensures.items in
          let b = length-append tasks c.fill_given.new.tasks.items in
          omega arith;
    }

-- what was made for the task
completed : (g : _) (c : goal.After-drop-more-2 g)
    → Completes g.row.V.Denot c.args.self.now.tasks.items c.append.new.self.items c.args.self.now.kept.items c.push_reserved.new.self.items
    c.args.self.now.places.items c.open_place.new.places.items
    (record { number = c.args.number; first = c.len-first.result; count = c.len-count.result; filled = c.in_ok-filled.filled })
    (job_of_task c.index.result.now) c.args.given
completed g c =
    let tasks = c.args.self.now.tasks.items in
    let task = c.index.result.now in
    let given = c.args.given in
    let k : Kept g.row.V.Denot
    = record { number = c.args.number; first = c.len-first.result; count = c.len-count.result; filled = c.in_ok-filled.filled } in
    let within : c.args.number < length tasks = (let l = length-map tasks job_of_task in let r = c.requires in omega arith) in
    completes_task tasks c.append.new.self.items c.fill_given.new.tasks.items c.args.self.now.kept.items c.push_reserved.new.self.items
    c.args.self.now.places.items c.open_place.new.places.items k task given
    (slice_get_read tasks (length tasks) c.args.number task refl within c.index.ensures)
    c.in_ok-append.ensures.items
    (c.push_reserved.ensures.items ∙ ap (λ ks. ks ++ k ∷ []) c.in_ok-reserve.ensures.items)
    (subst (λ places. PutsAt None c.args.number places c.open_place.new.places.items) c.in_ok-reserve_places.ensures c.open_place.ensures.opens)
    (c.len-first.ensures ∙ c.args.self.now.tasks.ok.0)
    (c.len-count.ensures ∙ c.fill_given.new.tasks.ok.0)
    (c.in_ok-filled.ensures.tasks ∙ ap (λ ts. jobs_in ts ++ made_beneath given (job_of_task task)) c.new-more.ensures.items)
    c.in_ok-filled.ensures.filled c.in_ok-filled.ensures.deep

pub returns : goal.returns
returns g c = record {
  made = λ task is. completes_has (completed g c) task is;
  holds = inr (completes_holds (completed g c));
  keeps = λ other given differs held. completes_keeps_since (completed g c) c.args.self.now.base other given differs held;
}
