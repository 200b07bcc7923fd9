use Rattle.std.proofs.Common.{◌≡◌, ◌∷◌, ◌∙◌, [], None, Some, ap, arith, length, length-append, refl, slice_get, suc, sym}
use Rattle.std.specs.Prelude.{Ok}
use Rattle.std.proofs.lemmas.List.{length-map}
use Rattle.gql_tasks.proofs.InTurnLemmas.{next_alone, next_root, next_sound}
use Rattle.gql_tasks.proofs.KeepsLemmas.{lent_none}
use Rattle.gql_tasks.proofs.RunLemmas.{all_answered}
use Rattle.gql_tasks.specs.Parts.{at, root_parts}
use Rattle.gql_tasks.specs.Phases.{NextRoot, serving_by}
use Rattle.gql_tasks.specs.declared.given.Given.TheVariants.{Put}
use Rattle.gql_objects.specs.KeptTasks.{store_in}
use Rattle.gql_engine.specs.ExecuteMutation.{answer_in_phase}
use Rattle.gql_objects.specs.Tasks.{job_of_task, jobs_in}
use Rattle.gql_engine.proofs.RootKeyLemmas.{has_place, key_cut_before, key_cut_behind, key_cut_within, key_over, key_within, last_there, phase_held, right_first}
use Rattle.gql_engine.proofs.root_keys.answer_key.Goals as goal

pub returns-in-Err-clause-cut : goal.returns-in-Err-clause-cut
returns-in-Err-clause-cut g c =
    key_cut_before _ (length c.args.own.now.items) _ c.open_key.new.plan c.open_key.new.arena.states.items c.open_key.new.arena.waiting (c.len-keys.ensures ∙ c.args.own.now.ok.0)

pub run_phase-requires-clause-sound : goal.run_phase-requires-clause-sound
run_phase-requires-clause-sound g c =
    let e = root_parts g.R.ResolverSet (Rattle.gql_engine.specs.contracts.execute_field.tree_plan.TreePlanPlan.TheImpl.ghosts g.row.R-Own g.R.Own.Destruct-dict) g.H.Rounds g.P.Turns in
    let now = at c.args.plan.now c.args.arena.now c.args.run.now in
    let next = at c.open_key.new.plan c.open_key.new.arena c.args.run.now in
    let opens : NextRoot e now next (job_of_task c.args.task) = record {
      tasks_is = c.in-Ok.ensures.tasks;
      states_is = c.in-Ok.ensures.states;
      waits = c.in-Ok.ensures.waits;
      root_is = c.requires.root;
      lent_is = lent_none now.lent;
      set_is = refl;
      hooks_is = refl;
      turns_is = refl;
      steps_is = refl;
      held = λ number within. (Put (Ok None), c.in-Ok.ensures.held number within);
    } in
    next_sound opens c.requires.between

pub run_phase-requires-clause-alone : goal.run_phase-requires-clause-alone
run_phase-requires-clause-alone g c =
    let e = root_parts g.R.ResolverSet (Rattle.gql_engine.specs.contracts.execute_field.tree_plan.TreePlanPlan.TheImpl.ghosts g.row.R-Own g.R.Own.Destruct-dict) g.H.Rounds g.P.Turns in
    let now = at c.args.plan.now c.args.arena.now c.args.run.now in
    let next = at c.open_key.new.plan c.open_key.new.arena c.args.run.now in
    let opens : NextRoot e now next (job_of_task c.args.task) = record {
      tasks_is = c.in-Ok.ensures.tasks;
      states_is = c.in-Ok.ensures.states;
      waits = c.in-Ok.ensures.waits;
      root_is = c.requires.root;
      lent_is = lent_none now.lent;
      set_is = refl;
      hooks_is = refl;
      turns_is = refl;
      steps_is = refl;
      held = λ number within. (Put (Ok None), c.in-Ok.ensures.held number within);
    } in
    next_alone opens c.requires.between

pub returns-in-Err-run_phase-clause-cut : goal.returns-in-Err-run_phase-clause-cut
returns-in-Err-run_phase-clause-cut g c =
    let e = root_parts g.R.ResolverSet (Rattle.gql_engine.specs.contracts.execute_field.tree_plan.TreePlanPlan.TheImpl.ghosts g.row.R-Own g.R.Own.Destruct-dict) g.H.Rounds g.P.Turns in
    let now = at c.args.plan.now c.args.arena.now c.args.run.now in
    let next = at c.open_key.new.plan c.open_key.new.arena c.args.run.now in
    let opens : NextRoot e now next (job_of_task c.args.task) = record {
      tasks_is = c.in-Ok.ensures.tasks;
      states_is = c.in-Ok.ensures.states;
      waits = c.in-Ok.ensures.waits;
      root_is = c.requires.root;
      lent_is = lent_none now.lent;
      set_is = refl;
      hooks_is = refl;
      turns_is = refl;
      steps_is = refl;
      held = λ number within. (Put (Ok None), c.in-Ok.ensures.held number within);
    } in
    let before = c.len-keys.ensures ∙ c.args.own.now.ok.0 in
    let more : length c.open_key.new.own.items ≡ suc (length c.args.own.now.items)
    = ap length c.in-Ok.ensures.own ∙ (let l = length-append c.args.own.now.items (None ∷ []) in omega arith) in
    let behind = c.len.ensures ∙ c.open_key.new.own.ok.0 ∙ more in
    key_cut_within opens refl refl (length c.args.own.now.items) c.in-Err-run_phase.want _ (λ z. c.behind_keys.ensures.none z ∙ before) (λ z. c.behind_keys.ensures.one z ∙ behind)
    c.in-Err-run_phase.ensures.cut

pub keep_key-requires-clause-within : goal.keep_key-requires-clause-within
keep_key-requires-clause-within g c =
    let over = c.in-Ok-run_phase.ensures.over in
    let number : c.len-number.result ≡ length (jobs_in c.args.plan.now.tasks.items) = c.len-number.ensures ∙ c.args.plan.now.tasks.ok.0 ∙ sym (length-map c.args.plan.now.tasks.items job_of_task) in
    let first = last_there (jobs_in c.args.plan.now.tasks.items) (jobs_in c.open_key.new.plan.tasks.items) (job_of_task c.args.task) c.in-Ok.ensures.tasks in
    key_within c.run_phase.new.plan.tasks.items c.run_phase.new.plan.roots c.len-number.result (job_of_task c.args.task)
    (ap (slice_get (jobs_in c.run_phase.new.plan.tasks.items)) number ∙ over.enters.stays (length (jobs_in c.args.plan.now.tasks.items)) (job_of_task c.args.task) first)
    c.requires.short c.run_phase.new.plan.deep

pub returns-in-Ok-keep_key-clause-over : goal.returns-in-Ok-keep_key-clause-over
returns-in-Ok-keep_key-clause-over g c =
    let e = root_parts g.R.ResolverSet (Rattle.gql_engine.specs.contracts.execute_field.tree_plan.TreePlanPlan.TheImpl.ghosts g.row.R-Own g.R.Own.Destruct-dict) g.H.Rounds g.P.Turns in
    let now = at c.args.plan.now c.args.arena.now c.args.run.now in
    let next = at c.open_key.new.plan c.open_key.new.arena c.args.run.now in
    let opens : NextRoot e now next (job_of_task c.args.task) = record {
      tasks_is = c.in-Ok.ensures.tasks;
      states_is = c.in-Ok.ensures.states;
      waits = c.in-Ok.ensures.waits;
      root_is = c.requires.root;
      lent_is = lent_none now.lent;
      set_is = refl;
      hooks_is = refl;
      turns_is = refl;
      steps_is = refl;
      held = λ number within. (Put (Ok None), c.in-Ok.ensures.held number within);
    } in
    key_over opens refl refl c.keep_key.new.plan (ap (λ v. jobs_in v.items) c.in-Ok-keep_key.ensures.tasks) c.in-Ok-run_phase.ensures.over

pub returns-in-Ok-keep_key-clause-placed : goal.returns-in-Ok-keep_key-clause-placed
returns-in-Ok-keep_key-clause-placed g c = λ law calm.
    let e = root_parts g.R.ResolverSet (Rattle.gql_engine.specs.contracts.execute_field.tree_plan.TreePlanPlan.TheImpl.ghosts g.row.R-Own g.R.Own.Destruct-dict) g.H.Rounds g.P.Turns in
    let now = at c.args.plan.now c.args.arena.now c.args.run.now in
    let next = at c.open_key.new.plan c.open_key.new.arena c.args.run.now in
    let opens : NextRoot e now next (job_of_task c.args.task) = record {
      tasks_is = c.in-Ok.ensures.tasks;
      states_is = c.in-Ok.ensures.states;
      waits = c.in-Ok.ensures.waits;
      root_is = c.requires.root;
      lent_is = lent_none now.lent;
      set_is = refl;
      hooks_is = refl;
      turns_is = refl;
      steps_is = refl;
      held = λ number within. (Put (Ok None), c.in-Ok.ensures.held number within);
    } in
    let over = c.in-Ok-run_phase.ensures.over in
    let root = job_of_task c.args.task in
    let answer = answer_in_phase (serving_by g.R.ResolverSet c.args.run.now.set.now) (g.R.ResolverSet.world c.args.run.now.set.now) root in
    let jobs = jobs_in c.run_phase.new.plan.tasks.items in
    let number : c.len-number.result ≡ length (jobs_in c.args.plan.now.tasks.items) = c.len-number.ensures ∙ c.args.plan.now.tasks.ok.0 ∙ sym (length-map c.args.plan.now.tasks.items job_of_task) in
    let first = last_there (jobs_in c.args.plan.now.tasks.items) (jobs_in c.open_key.new.plan.tasks.items) root c.in-Ok.ensures.tasks in
    let there : slice_get jobs c.len-number.result ≡ Some root = ap (slice_get jobs) number ∙ over.enters.stays (length (jobs_in c.args.plan.now.tasks.items)) root first in
    let progress = over.progress law calm root (next_root opens c.requires.between) in
    let right = progress.right c.len-number.result
    (right_first _ _ _ c.args.arena.now.states.items c.open_key.new.arena.states.items c.len-number.result c.in-Ok.ensures.states (number ∙ sym c.requires.between.lengths)) in
    let held = phase_held answer c.run_phase.new.plan.base c.len-number.result jobs (store_in c.run_phase.new.plan.kept.items c.run_phase.new.plan.places.items) c.run_phase.new.arena.states.items right
    (all_answered over.sound over.none) in
    has_place answer root c.args.own.now.items c.open_key.new.own.items c.keep_key.new.own.items c.in-Ok.ensures.own (c.in-Ok-keep_key.ensures.placed root answer there held)

pub returns-in-Err-keep_key-clause-cut : goal.returns-in-Err-keep_key-clause-cut
returns-in-Err-keep_key-clause-cut g c =
    let e = root_parts g.R.ResolverSet (Rattle.gql_engine.specs.contracts.execute_field.tree_plan.TreePlanPlan.TheImpl.ghosts g.row.R-Own g.R.Own.Destruct-dict) g.H.Rounds g.P.Turns in
    let now = at c.args.plan.now c.args.arena.now c.args.run.now in
    let next = at c.open_key.new.plan c.open_key.new.arena c.args.run.now in
    let opens : NextRoot e now next (job_of_task c.args.task) = record {
      tasks_is = c.in-Ok.ensures.tasks;
      states_is = c.in-Ok.ensures.states;
      waits = c.in-Ok.ensures.waits;
      root_is = c.requires.root;
      lent_is = lent_none now.lent;
      set_is = refl;
      hooks_is = refl;
      turns_is = refl;
      steps_is = refl;
      held = λ number within. (Put (Ok None), c.in-Ok.ensures.held number within);
    } in
    let more : length c.open_key.new.own.items ≡ suc (length c.args.own.now.items)
    = ap length c.in-Ok.ensures.own ∙ (let l = length-append c.args.own.now.items (None ∷ []) in omega arith) in
    key_cut_behind opens refl refl (length c.args.own.now.items) _ c.keep_key.new.plan
    (c.len-in-Err-keep_key.ensures ∙ c.keep_key.new.own.ok.0 ∙ c.in-Err-keep_key.ensures.own ∙ more) c.in-Ok-run_phase.ensures.over
