use Rattle.std.proofs.Common.{◌≡◌, ◌<◌, ◌∙◌, List, ap, arith, length, refl, subst, sym}
use Rattle.std.proofs.lemmas.List.{length-map}
use Rattle.std.proofs.lemmas.Option.{slice_get_read}
use Rattle.gql_lists.proofs.SliceLemmas.{length_set}
use Rattle.gql_objects.specs.Assembly.{AllHeldSince}
use Rattle.gql_objects.specs.KeptTasks.{entries_in}
use Rattle.gql_objects.specs.KeptTasks.{store_in}
use Rattle.gql_objects.specs.PlaceStore.{stands_for}
use Rattle.gql_objects.specs.Tasks.{job_of_task, jobs_in}
use Rattle.gql_objects.specs.declared.assembly.kept.Kept.{Kept}
use Rattle.gql_objects.proofs.AssemblyLemmas.{held_over}
use Rattle.gql_objects.proofs.EntryLemmas.{laid_grows}
use Rattle.gql_engine.proofs.RootKeyLemmas.{puts_last}
use Rattle.gql_engine.proofs.root_keys.keep_key.Goals as goal

pub add_open-requires : goal.add_open-requires
add_open-requires g c =
    let count : c.len.result ≡ length c.args.plan.now.tasks.items = c.len.ensures ∙ c.close-kept.new.self.tasks.ok.0 ∙ ap (λ v. length v.items) c.close-kept.ensures.tasks in
    let same = ap (λ v. length v.items) c.close-kept.ensures.places in
    let within = c.args.plan.now.within in
    omega arith

pub invariant_of-plan : goal.invariant_of-plan
invariant_of-plan g c =
    let grows = laid_grows c.args.plan.now.roots (length c.args.plan.now.tasks.items) (entries_in c.args.plan.now.kept.items) c.args.plan.now.laid in
    let same = ap (λ v. length v.items) c.close-kept.ensures.tasks in
    let long = length_set c.assemble.new.places.items c.args.number c.take.new.self in
    let count = c.in_ok-assemble.ensures.length in
    record { laid = c.close-kept.new.self.laid; deep = c.close-kept.new.self.deep; within = omega arith }

pub returns-clause-placed : goal.returns-clause-placed
returns-clause-placed g c = λ job answer there held.
    let jobs = jobs_in c.args.plan.now.tasks.items in
    let places = c.assemble.new.places.items in
    let within = c.requires.within in
    let count = c.in_ok-assemble.ensures.length in
    let same : length jobs ≡ length c.add_open.new.places.items =
    length-map c.args.plan.now.tasks.items job_of_task ∙ sym (c.in_ok-add_open.ensures.length ∙ c.len.ensures ∙ c.close-kept.new.self.tasks.ok.0 ∙ ap (λ v. length v.items) c.close-kept.ensures.tasks) in
    let stored = subst (λ (ks : List (Kept g.row.V.Denot)). AllHeldSince answer c.args.number jobs (store_in ks c.args.plan.now.places.items))
    (sym (ap (λ v. v.items) c.close-kept.ensures.kept)) held in
    let over = held_over answer c.args.number jobs c.close-kept.result.0.items c.args.plan.now.places.items c.add_open.new.places.items
    (λ k. c.in_ok-add_open.ensures.same k ∙ ap (λ v. stands_for v.items k) c.close-kept.ensures.places) stored in
    let placed = c.in_ok-assemble.ensures.placed c.args.number jobs answer (omega arith) same over in
    let inside : c.args.number < length places = omega arith in
    puts_last answer job jobs places c.args.number c.index_mut.result.now c.args.own.now.items c.put_last.new.own.items placed there
    (slice_get_read places (length places) c.args.number c.index_mut.result.now refl inside c.index_mut.ensures.value)
    (c.put_last.ensures ∙ ap (Rattle.std.specs.Prelude.slice_set c.args.own.now.items _) c.take.ensures.value)
