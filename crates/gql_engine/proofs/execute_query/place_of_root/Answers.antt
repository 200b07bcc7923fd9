use Rattle.std.proofs.Common.{◌≤◌, ◌∙◌, Some, length, take, ap, subst, sym}
use Rattle.std.proofs.lemmas.List.{length-map}
use Rattle.std.proofs.lemmas.Result.{IfOk-weaker}
use Rattle.gql_place.specs.Alike.{Paired}
use Rattle.gql_objects.specs.Assembly.{IsRight}
use Rattle.gql_objects.specs.KeptTasks.{entries_in}
use Rattle.gql_objects.specs.PlaceStore.{present}
use Rattle.gql_objects.specs.Tasks.{job_of_task, jobs_in}
use Rattle.gql_objects.proofs.AssemblyLemmas.{held_over, placed_paired, zero_low}
use Rattle.gql_objects.proofs.EntryLemmas.{laid_grows}
use Rattle.gql_engine.proofs.execute_query.place_of_root.Goals as goal

pub assemble-requires : goal.assemble-requires
assemble-requires g c =
    c.args.plan.laid ∙ ap Some (sym (c.in_ok-add_open.ensures.length ∙ c.len-count.ensures ∙ c.args.plan.tasks.ok.0))

pub returns : goal.returns
returns g c = λ answer held apart.
    let own = present c.from_vec-own.result.items in
    let jobs = jobs_in c.args.plan.tasks.items in
    let same = length-map c.args.plan.tasks.items job_of_task in
    let count = c.in_ok-add_open.ensures.length ∙ c.len-count.ensures ∙ c.args.plan.tasks.ok.0 in
    let placed = c.in_ok-assemble.ensures.placed 0 jobs answer (zero_low c.args.plan.roots) (same ∙ sym count)
    (held_over answer 0 jobs c.args.plan.kept.items c.args.plan.places.items c.add_open.new.places.items c.in_ok-add_open.ensures.same (λ k job above is. held k job is)) in
    let right : Paired (IsRight answer) (take c.args.plan.roots jobs) own
    = subst (λ os. Paired (IsRight answer) (take c.args.plan.roots jobs) (present os)) (sym c.from_vec-own.ensures.items)
    (placed_paired answer c.args.plan.roots jobs c.assemble.new.places.items c.in_ok-assemble.ensures.length
    (subst (λ n. c.args.plan.roots ≤ n) (sym same) (laid_grows c.args.plan.roots (length c.args.plan.tasks.items) (entries_in c.args.plan.kept.items) c.args.plan.laid)) placed) in
    IfOk-weaker c.root_piece.result _ _ (λ piece is. record { own = own; right = right; piece_is = is }) (c.root_piece.ensures apart)
