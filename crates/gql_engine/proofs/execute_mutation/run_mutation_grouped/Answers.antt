use Rattle.std.proofs.Common.{◌≡◌, ◌+◌, ◌∷◌, ◌++◌, ◌∙◌, [], List, append-nil, ap, length, map, refl, subst, sym, true}
use Rattle.std.specs.Prelude.{IfOk}
use Rattle.std.proofs.lemmas.Result.{IfErr-weaker, IfOk-weaker}
use Rattle.gql_base.specs.declared.no_memory.NoMemory.{NoMemory}
use Rattle.gql_tasks.proofs.AdvanceLemmas.{on_err, on_ok}
use Rattle.gql_tasks.proofs.InTurnLemmas.{cut_between, in_turn_none}
use Rattle.gql_tasks.proofs.RootLemmas.{if_err}
use Rattle.gql_tasks.proofs.RoundLemmas.{no_rounds, rounds_err, so_far_enters_whole, stopped_rounds, whole_rounds}
use Rattle.gql_tasks.specs.Arena.{made_of, marks_of, started, total}
use Rattle.gql_tasks.specs.Parts.{at, choice_by, root_parts, stage}
use Rattle.gql_tasks.specs.Phases.{AreCut, CutInTurn, none_made, Phases, RootsStand, serving_by, world_past}
use Rattle.gql_tasks.specs.Progress.{seen_in}
use Rattle.gql_tasks.specs.Rounds.{RoundsStopped, RoundsWhole}
use Rattle.gql_meaning.specs.Responses.{root_place}
use Rattle.gql_place.specs.Alike.{Same}
use Rattle.gql_place.specs.Pieces.{place_in}
use Rattle.gql_place.proofs.PieceLemmas.{same_trans}
use Rattle.gql_objects.specs.Members.{members_with}
use Rattle.gql_objects.specs.Assembly.{AreApart}
use Rattle.gql_collect.specs.GroupFields.{keeps_whole}
use Rattle.gql_engine.specs.GivenTasks.{asked_by_job}
use Rattle.gql_objects.specs.Jobs.{Job}
use Rattle.gql_objects.specs.Parents.{jobs_here, Standing, standing_behind}
use Rattle.gql_engine.specs.ExecuteQuery.{job_subject}
use Rattle.gql_engine.specs.ExecuteMutation.{key_jobs_by, key_work_by, no_jobs, PlacedInTurn}
use Rattle.gql_objects.specs.PlaceStore.{present}
use Rattle.gql_objects.specs.Tasks.{jobs_in}
use Rattle.gql_objects.specs.declared.task.Task.{Task}
use Rattle.std.specs.List.{AllByRecursion}
use Rattle.gql_engine.specs.RootKeys.{IsKey}
use Rattle.gql_engine.proofs.RootKeyLemmas.{halts_none, stage_none, steps_in_turn, turn_answered}
use Rattle.gql_engine.proofs.QueryLemmas.{all_keys, apart_root, mutation_jobs, mutation_stands, root_same}
use Rattle.gql_engine.proofs.KeyCountLemmas.{mutation_counted}
use Rattle.gql_engine.proofs.MutationLemmas.{last_past, members_in_turn}
use Rattle.gql_engine.proofs.execute_mutation.run_mutation_grouped.Goals as goal

pub returns-in_err-root-clause-stopped : goal.returns-in_err-root-clause-stopped
returns-in_err-root-clause-stopped g c = λ law calm. on_err c.from_residual.result _ (halts_none g.R.ResolverSet g.P.Turns (key_work_by c.args.by c.args.scene.now) (seen_in c.args.run.now))

pub returns-in_err-root-clause-rounds : goal.returns-in_err-root-clause-rounds
returns-in_err-root-clause-rounds g c = rounds_err _ c.from_residual.result c.from_residual.ensures.1 (no_rounds {asks = asked_by_job} {hooks = g.H.Rounds} (no_jobs c.args.scene.now) c.args.run.now.hooks.now)

pub returns-in_err-make_tasks-clause-stopped : goal.returns-in_err-make_tasks-clause-stopped
returns-in_err-make_tasks-clause-stopped g c = λ law calm. on_err c.from_residual-in_err-make_tasks.result _ (halts_none g.R.ResolverSet g.P.Turns (key_work_by c.args.by c.args.scene.now) (seen_in c.args.run.now))

pub returns-in_err-make_tasks-clause-rounds : goal.returns-in_err-make_tasks-clause-rounds
returns-in_err-make_tasks-clause-rounds g c = rounds_err _ c.from_residual-in_err-make_tasks.result c.from_residual-in_err-make_tasks.ensures.1 (no_rounds {asks = asked_by_job} {hooks = g.H.Rounds} (no_jobs c.args.scene.now) c.args.run.now.hooks.now)

pub returns-in_err-arena-clause-stopped : goal.returns-in_err-arena-clause-stopped
returns-in_err-arena-clause-stopped g c = λ law calm. on_err c.from_residual-in_err-arena.result _ (halts_none g.R.ResolverSet g.P.Turns (key_work_by c.args.by c.args.scene.now) (seen_in c.args.run.now))

pub returns-in_err-arena-clause-rounds : goal.returns-in_err-arena-clause-rounds
returns-in_err-arena-clause-rounds g c = rounds_err _ c.from_residual-in_err-arena.result c.from_residual-in_err-arena.ensures.1 (no_rounds {asks = asked_by_job} {hooks = g.H.Rounds} (no_jobs c.args.scene.now) c.args.run.now.hooks.now)

pub answer_keys-requires-clause-keys : goal.answer_keys-requires-clause-keys
answer_keys-requires-clause-keys g c =
    let e = root_parts g.R.ResolverSet (Rattle.gql_engine.specs.contracts.execute_field.tree_plan.TreePlanPlan.TheImpl.ghosts g.row.R-Own g.R.Own.Destruct-dict) g.H.Rounds g.P.Turns in
    let scene = c.args.scene.now in
    let asked : jobs_in c.from_vec-keys.result.items ≡ key_jobs_by c.args.by scene
    = ap jobs_in c.from_vec-keys.ensures.items ∙ c.in_ok-make_tasks.ensures ∙ ap (λ (ts : List (Task g.row.R-Own.Denot)). jobs_in ts ++ jobs_here c.in_ok-root.root.value) c.new-tasks.ensures.items
    ∙ c.in_ok-root.ensures.jobs ∙ mutation_jobs c.args.by scene c.requires in
    subst (AllByRecursion IsKey) (sym asked) (all_keys c.args.by scene)

pub answer_keys-requires-clause-between : goal.answer_keys-requires-clause-between
answer_keys-requires-clause-between g c =
    in_turn_none (at c.empty-plan.result c.in_ok-arena.arena c.args.run.now)
    c.in_ok-arena.ensures.states c.empty-plan.ensures.tasks c.in_ok-arena.ensures.waits

pub returns-in_err-own-clause-stopped : goal.returns-in_err-own-clause-stopped
returns-in_err-own-clause-stopped g c = λ law calm.
    let e = root_parts g.R.ResolverSet (Rattle.gql_engine.specs.contracts.execute_field.tree_plan.TreePlanPlan.TheImpl.ghosts g.row.R-Own g.R.Own.Destruct-dict) g.H.Rounds g.P.Turns in
    let scene = c.args.scene.now in
    let asked : jobs_in c.from_vec-keys.result.items ≡ key_jobs_by c.args.by scene
    = ap jobs_in c.from_vec-keys.ensures.items ∙ c.in_ok-make_tasks.ensures ∙ ap (λ (ts : List (Task g.row.R-Own.Denot)). jobs_in ts ++ jobs_here c.in_ok-root.root.value) c.new-tasks.ensures.items
    ∙ c.in_ok-root.ensures.jobs ∙ mutation_jobs c.args.by scene c.requires in
    let first = at c.empty-plan.result c.in_ok-arena.arena c.args.run.now in
    let new = at c.answer_keys.new.plan c.answer_keys.new.arena c.answer_keys.new.run in
    let serving = serving_by g.R.ResolverSet c.args.run.now.set.now in
    let world = g.R.ResolverSet.world c.args.run.now.set.now in
    let nothing : stage e first ≡ none_made g.R.ResolverSet g.P.Turns (key_work_by c.args.by scene) (seen_in c.args.run.now) (seen_in c.args.run.now) =
    stage_none (g.R.ResolverSet.told c.args.run.now.set.now) (g.R.ResolverSet.begun c.args.run.now.set.now) (g.P.Turns.state c.args.run.now.turns.now) (jobs_in c.empty-plan.result.tasks.items)
    (marks_of c.in_ok-arena.arena.states.items) c.empty-plan.ensures.tasks (ap marks_of c.in_ok-arena.ensures.states) in
    let cut = c.in_err-own.ensures.cut in
    on_err c.from_residual-in_err-own.result _
    (subst (λ s. AreCut serving job_subject (choice_by g.P.Turns) world (key_jobs_by c.args.by scene) s (g.R.ResolverSet.told new.set) (g.R.ResolverSet.begun new.set)) nothing
    (subst (λ rs. AreCut serving job_subject (choice_by g.P.Turns) world rs (stage e first) (g.R.ResolverSet.told new.set) (g.R.ResolverSet.begun new.set)) asked (cut.cut law calm)))

pub returns-in_err-own-clause-roots : goal.returns-in_err-own-clause-roots
returns-in_err-own-clause-roots g c = λ law calm.
    let e = root_parts g.R.ResolverSet (Rattle.gql_engine.specs.contracts.execute_field.tree_plan.TreePlanPlan.TheImpl.ghosts g.row.R-Own g.R.Own.Destruct-dict) g.H.Rounds g.P.Turns in
    let scene = c.args.scene.now in
    let asked : jobs_in c.from_vec-keys.result.items ≡ key_jobs_by c.args.by scene
    = ap jobs_in c.from_vec-keys.ensures.items ∙ c.in_ok-make_tasks.ensures ∙ ap (λ (ts : List (Task g.row.R-Own.Denot)). jobs_in ts ++ jobs_here c.in_ok-root.root.value) c.new-tasks.ensures.items
    ∙ c.in_ok-root.ensures.jobs ∙ mutation_jobs c.args.by scene c.requires in
    let first = at c.empty-plan.result c.in_ok-arena.arena c.args.run.now in
    let new = at c.answer_keys.new.plan c.answer_keys.new.arena c.answer_keys.new.run in
    let serving = serving_by g.R.ResolverSet c.args.run.now.set.now in
    let world = g.R.ResolverSet.world c.args.run.now.set.now in
    let nothing : stage e first ≡ none_made g.R.ResolverSet g.P.Turns (key_work_by c.args.by scene) (seen_in c.args.run.now) (seen_in c.args.run.now) =
    stage_none (g.R.ResolverSet.told c.args.run.now.set.now) (g.R.ResolverSet.begun c.args.run.now.set.now) (g.P.Turns.state c.args.run.now.turns.now) (jobs_in c.empty-plan.result.tasks.items)
    (marks_of c.in_ok-arena.arena.states.items) c.empty-plan.ensures.tasks (ap marks_of c.in_ok-arena.ensures.states) in
    let old_seen = seen_in c.args.run.now in
    let new_seen = seen_in c.answer_keys.new.run in
    if_err _ (λ want. RootsStand g.R.ResolverSet g.P.Turns (key_work_by c.args.by scene) old_seen new_seen want.roots) c.from_residual-in_err-own.result c.from_residual-in_err-own.ensures.1
    (λ want is.
    let stands = (subst (λ w. CutInTurn e first new (key_jobs_by c.args.by scene) w) (sym is)
    (subst (λ rs. CutInTurn e first new rs c.in_err-own.field-0.0) asked c.in_err-own.ensures.cut)).stands law calm in
    record { within = stands.0; world = stands.1 })

pub returns-in_err-own-clause-rounds : goal.returns-in_err-own-clause-rounds
returns-in_err-own-clause-rounds g c =
    rounds_err _ c.from_residual-in_err-own.result c.from_residual-in_err-own.ensures.1
    (subst (λ (ts : List (Job g.row.R-Own.Denot)). RoundsStopped asked_by_job g.H.Rounds ts c.args.run.now.hooks.now c.answer_keys.new.run.hooks.now) c.empty-plan.ensures.tasks
    (stopped_rounds 0 c.in_err-own.ensures.cut.enters c.in_ok-arena.ensures.states))

pub returns-clause-places : goal.returns-clause-places
returns-clause-places g c = λ law calm n nests.
    let e = root_parts g.R.ResolverSet (Rattle.gql_engine.specs.contracts.execute_field.tree_plan.TreePlanPlan.TheImpl.ghosts g.row.R-Own g.R.Own.Destruct-dict) g.H.Rounds g.P.Turns in
    let scene = c.args.scene.now in
    let asked : jobs_in c.from_vec-keys.result.items ≡ key_jobs_by c.args.by scene
    = ap jobs_in c.from_vec-keys.ensures.items ∙ c.in_ok-make_tasks.ensures ∙ ap (λ (ts : List (Task g.row.R-Own.Denot)). jobs_in ts ++ jobs_here c.in_ok-root.root.value) c.new-tasks.ensures.items
    ∙ c.in_ok-root.ensures.jobs ∙ mutation_jobs c.args.by scene c.requires in
    let first = at c.empty-plan.result c.in_ok-arena.arena c.args.run.now in
    let new = at c.answer_keys.new.plan c.answer_keys.new.arena c.answer_keys.new.run in
    let serving = serving_by g.R.ResolverSet c.args.run.now.set.now in
    let world = g.R.ResolverSet.world c.args.run.now.set.now in
    let nothing : stage e first ≡ none_made g.R.ResolverSet g.P.Turns (key_work_by c.args.by scene) (seen_in c.args.run.now) (seen_in c.args.run.now) =
    stage_none (g.R.ResolverSet.told c.args.run.now.set.now) (g.R.ResolverSet.begun c.args.run.now.set.now) (g.P.Turns.state c.args.run.now.turns.now) (jobs_in c.empty-plan.result.tasks.items)
    (marks_of c.in_ok-arena.arena.states.items) c.empty-plan.ensures.tasks (ap marks_of c.in_ok-arena.ensures.states) in
    let placed = subst (λ rs. PlacedInTurn serving world rs c.in_ok-own.own.items) asked (c.in_ok-own.ensures.placed law calm) in
    let whole = keeps_whole c.args.by in
    let pos = scene.env.now.operation.pos in
    let root = standing_behind c.in_ok-root.root in
    let stands = c.in_ok-root.ensures.stands ∙ mutation_stands c.args.by scene c.requires in
    let own = map place_in (present c.in_ok-own.own.items) in
    let is = subst (λ w. AreApart w (root ∷ []) → IfOk c.place_of_keys.result (λ run. Same w (place_in run.0) (root_place pos (members_with root.spot.object root.members own))))
    c.keeps_whole.ensures c.place_of_keys.ensures.place (apart_root true c.args.by scene root stands) in
    IfOk-weaker c.place_of_keys.result _ _ (λ run here. same_trans whole (place_in run.0) _ _
    (subst (λ (s : Standing g.row.R-Own.Denot). Same whole (place_in run.0) (root_place pos (members_with s.spot.object s.members own))) stands here)
    (root_same whole pos _ _ (members_in_turn c.args.by scene serving world c.in_ok-own.own.items n nests placed))) is

pub returns-clause-count : goal.returns-clause-count
returns-clause-count g c =
    let e = root_parts g.R.ResolverSet (Rattle.gql_engine.specs.contracts.execute_field.tree_plan.TreePlanPlan.TheImpl.ghosts g.row.R-Own g.R.Own.Destruct-dict) g.H.Rounds g.P.Turns in
    let scene = c.args.scene.now in
    let asked : jobs_in c.from_vec-keys.result.items ≡ key_jobs_by c.args.by scene
    = ap jobs_in c.from_vec-keys.ensures.items ∙ c.in_ok-make_tasks.ensures ∙ ap (λ (ts : List (Task g.row.R-Own.Denot)). jobs_in ts ++ jobs_here c.in_ok-root.root.value) c.new-tasks.ensures.items
    ∙ c.in_ok-root.ensures.jobs ∙ mutation_jobs c.args.by scene c.requires in
    IfOk-weaker c.place_of_keys.result _ _ (λ run is. is ∙ c.in_ok-own.ensures.count ∙ ap length asked) c.place_of_keys.ensures.count

pub returns-clause-world : goal.returns-clause-world
returns-clause-world g c = λ law calm.
    let e = root_parts g.R.ResolverSet (Rattle.gql_engine.specs.contracts.execute_field.tree_plan.TreePlanPlan.TheImpl.ghosts g.row.R-Own g.R.Own.Destruct-dict) g.H.Rounds g.P.Turns in
    let scene = c.args.scene.now in
    let asked : jobs_in c.from_vec-keys.result.items ≡ key_jobs_by c.args.by scene
    = ap jobs_in c.from_vec-keys.ensures.items ∙ c.in_ok-make_tasks.ensures ∙ ap (λ (ts : List (Task g.row.R-Own.Denot)). jobs_in ts ++ jobs_here c.in_ok-root.root.value) c.new-tasks.ensures.items
    ∙ c.in_ok-root.ensures.jobs ∙ mutation_jobs c.args.by scene c.requires in
    let first = at c.empty-plan.result c.in_ok-arena.arena c.args.run.now in
    let new = at c.answer_keys.new.plan c.answer_keys.new.arena c.answer_keys.new.run in
    let serving = serving_by g.R.ResolverSet c.args.run.now.set.now in
    let world = g.R.ResolverSet.world c.args.run.now.set.now in
    let nothing : stage e first ≡ none_made g.R.ResolverSet g.P.Turns (key_work_by c.args.by scene) (seen_in c.args.run.now) (seen_in c.args.run.now) =
    stage_none (g.R.ResolverSet.told c.args.run.now.set.now) (g.R.ResolverSet.begun c.args.run.now.set.now) (g.P.Turns.state c.args.run.now.turns.now) (jobs_in c.empty-plan.result.tasks.items)
    (marks_of c.in_ok-arena.arena.states.items) c.empty-plan.ensures.tasks (ap marks_of c.in_ok-arena.ensures.states) in
    on_ok c.place_of_keys.result _
    (c.in_ok-own.ensures.over.world law calm ∙ ap (world_past serving job_subject world) asked ∙ last_past c.args.by scene serving world)

pub returns-clause-record : goal.returns-clause-record
returns-clause-record g c = λ law calm.
    let e = root_parts g.R.ResolverSet (Rattle.gql_engine.specs.contracts.execute_field.tree_plan.TreePlanPlan.TheImpl.ghosts g.row.R-Own g.R.Own.Destruct-dict) g.H.Rounds g.P.Turns in
    let scene = c.args.scene.now in
    let asked : jobs_in c.from_vec-keys.result.items ≡ key_jobs_by c.args.by scene
    = ap jobs_in c.from_vec-keys.ensures.items ∙ c.in_ok-make_tasks.ensures ∙ ap (λ (ts : List (Task g.row.R-Own.Denot)). jobs_in ts ++ jobs_here c.in_ok-root.root.value) c.new-tasks.ensures.items
    ∙ c.in_ok-root.ensures.jobs ∙ mutation_jobs c.args.by scene c.requires in
    let first = at c.empty-plan.result c.in_ok-arena.arena c.args.run.now in
    let new = at c.answer_keys.new.plan c.answer_keys.new.arena c.answer_keys.new.run in
    let serving = serving_by g.R.ResolverSet c.args.run.now.set.now in
    let world = g.R.ResolverSet.world c.args.run.now.set.now in
    let nothing : stage e first ≡ none_made g.R.ResolverSet g.P.Turns (key_work_by c.args.by scene) (seen_in c.args.run.now) (seen_in c.args.run.now) =
    stage_none (g.R.ResolverSet.told c.args.run.now.set.now) (g.R.ResolverSet.begun c.args.run.now.set.now) (g.P.Turns.state c.args.run.now.turns.now) (jobs_in c.empty-plan.result.tasks.items)
    (marks_of c.in_ok-arena.arena.states.items) c.empty-plan.ensures.tasks (ap marks_of c.in_ok-arena.ensures.states) in
    on_ok c.place_of_keys.result _ (record {
      made = made_of (jobs_in c.answer_keys.new.plan.tasks.items) c.answer_keys.new.arena.states.items;
      phases = subst (λ s. Phases serving job_subject (choice_by g.P.Turns) world (key_jobs_by c.args.by scene) s (stage e new)) nothing
          (subst (λ rs. Phases serving job_subject (choice_by g.P.Turns) world rs (stage e first) (stage e new)) asked (c.in_ok-own.ensures.over.phases law calm));
    })

pub returns-clause-asked : goal.returns-clause-asked
returns-clause-asked g c = λ law calm n nests.
    let e = root_parts g.R.ResolverSet (Rattle.gql_engine.specs.contracts.execute_field.tree_plan.TreePlanPlan.TheImpl.ghosts g.row.R-Own g.R.Own.Destruct-dict) g.H.Rounds g.P.Turns in
    let scene = c.args.scene.now in
    let asked : jobs_in c.from_vec-keys.result.items ≡ key_jobs_by c.args.by scene
    = ap jobs_in c.from_vec-keys.ensures.items ∙ c.in_ok-make_tasks.ensures ∙ ap (λ (ts : List (Task g.row.R-Own.Denot)). jobs_in ts ++ jobs_here c.in_ok-root.root.value) c.new-tasks.ensures.items
    ∙ c.in_ok-root.ensures.jobs ∙ mutation_jobs c.args.by scene c.requires in
    let first = at c.empty-plan.result c.in_ok-arena.arena c.args.run.now in
    let new = at c.answer_keys.new.plan c.answer_keys.new.arena c.answer_keys.new.run in
    let serving = serving_by g.R.ResolverSet c.args.run.now.set.now in
    let world = g.R.ResolverSet.world c.args.run.now.set.now in
    let nothing : stage e first ≡ none_made g.R.ResolverSet g.P.Turns (key_work_by c.args.by scene) (seen_in c.args.run.now) (seen_in c.args.run.now) =
    stage_none (g.R.ResolverSet.told c.args.run.now.set.now) (g.R.ResolverSet.begun c.args.run.now.set.now) (g.P.Turns.state c.args.run.now.turns.now) (jobs_in c.empty-plan.result.tasks.items)
    (marks_of c.in_ok-arena.arena.states.items) c.empty-plan.ensures.tasks (ap marks_of c.in_ok-arena.ensures.states) in
    let phases = subst (λ rs. Phases serving job_subject (choice_by g.P.Turns) world rs (stage e first) (stage e new)) asked (c.in_ok-own.ensures.over.phases law calm) in
    let count = mutation_counted c.args.by scene serving (choice_by g.P.Turns) world (stage e first) (stage e new) phases c.empty-plan.ensures.tasks
    (ap marks_of c.in_ok-arena.ensures.states) n nests in
    let stepped = c.in_ok-own.ensures.over.stepped calm in
    on_ok c.place_of_keys.result _
    (steps_in_turn c.in_ok-own.ensures.over c.args.run.now.steps.now c.answer_keys.new.run.steps.now (ap (total started) c.in_ok-arena.ensures.states) stepped ∙ ap (λ m. c.args.run.now.steps.now + m) count)

pub returns-clause-stopped : goal.returns-clause-stopped
returns-clause-stopped g c = λ law calm.
    let e = root_parts g.R.ResolverSet (Rattle.gql_engine.specs.contracts.execute_field.tree_plan.TreePlanPlan.TheImpl.ghosts g.row.R-Own g.R.Own.Destruct-dict) g.H.Rounds g.P.Turns in
    let scene = c.args.scene.now in
    let asked : jobs_in c.from_vec-keys.result.items ≡ key_jobs_by c.args.by scene
    = ap jobs_in c.from_vec-keys.ensures.items ∙ c.in_ok-make_tasks.ensures ∙ ap (λ (ts : List (Task g.row.R-Own.Denot)). jobs_in ts ++ jobs_here c.in_ok-root.root.value) c.new-tasks.ensures.items
    ∙ c.in_ok-root.ensures.jobs ∙ mutation_jobs c.args.by scene c.requires in
    let first = at c.empty-plan.result c.in_ok-arena.arena c.args.run.now in
    let new = at c.answer_keys.new.plan c.answer_keys.new.arena c.answer_keys.new.run in
    let serving = serving_by g.R.ResolverSet c.args.run.now.set.now in
    let world = g.R.ResolverSet.world c.args.run.now.set.now in
    let nothing : stage e first ≡ none_made g.R.ResolverSet g.P.Turns (key_work_by c.args.by scene) (seen_in c.args.run.now) (seen_in c.args.run.now) =
    stage_none (g.R.ResolverSet.told c.args.run.now.set.now) (g.R.ResolverSet.begun c.args.run.now.set.now) (g.P.Turns.state c.args.run.now.turns.now) (jobs_in c.empty-plan.result.tasks.items)
    (marks_of c.in_ok-arena.arena.states.items) c.empty-plan.ensures.tasks (ap marks_of c.in_ok-arena.ensures.states) in
    let all = jobs_in c.from_vec-keys.result.items in
    let want : NoMemory = record { roots = length all } in
    let cut = cut_between want all [] c.in_ok-own.ensures.over (sym (append-nil all)) refl in
    on_err c.place_of_keys.result _
    (subst (λ s. AreCut serving job_subject (choice_by g.P.Turns) world (key_jobs_by c.args.by scene) s (g.R.ResolverSet.told new.set) (g.R.ResolverSet.begun new.set)) nothing
    (subst (λ rs. AreCut serving job_subject (choice_by g.P.Turns) world rs (stage e first) (g.R.ResolverSet.told new.set) (g.R.ResolverSet.begun new.set)) asked (cut.cut law calm)))

pub returns-clause-roots : goal.returns-clause-roots
returns-clause-roots g c = λ law calm.
    let e = root_parts g.R.ResolverSet (Rattle.gql_engine.specs.contracts.execute_field.tree_plan.TreePlanPlan.TheImpl.ghosts g.row.R-Own g.R.Own.Destruct-dict) g.H.Rounds g.P.Turns in
    let scene = c.args.scene.now in
    let asked : jobs_in c.from_vec-keys.result.items ≡ key_jobs_by c.args.by scene
    = ap jobs_in c.from_vec-keys.ensures.items ∙ c.in_ok-make_tasks.ensures ∙ ap (λ (ts : List (Task g.row.R-Own.Denot)). jobs_in ts ++ jobs_here c.in_ok-root.root.value) c.new-tasks.ensures.items
    ∙ c.in_ok-root.ensures.jobs ∙ mutation_jobs c.args.by scene c.requires in
    let first = at c.empty-plan.result c.in_ok-arena.arena c.args.run.now in
    let new = at c.answer_keys.new.plan c.answer_keys.new.arena c.answer_keys.new.run in
    let serving = serving_by g.R.ResolverSet c.args.run.now.set.now in
    let world = g.R.ResolverSet.world c.args.run.now.set.now in
    let nothing : stage e first ≡ none_made g.R.ResolverSet g.P.Turns (key_work_by c.args.by scene) (seen_in c.args.run.now) (seen_in c.args.run.now) =
    stage_none (g.R.ResolverSet.told c.args.run.now.set.now) (g.R.ResolverSet.begun c.args.run.now.set.now) (g.P.Turns.state c.args.run.now.turns.now) (jobs_in c.empty-plan.result.tasks.items)
    (marks_of c.in_ok-arena.arena.states.items) c.empty-plan.ensures.tasks (ap marks_of c.in_ok-arena.ensures.states) in
    let all = jobs_in c.from_vec-keys.result.items in
    let old_seen = seen_in c.args.run.now in
    let new_seen = seen_in c.answer_keys.new.run in
    IfErr-weaker c.place_of_keys.result _ (λ want. RootsStand g.R.ResolverSet g.P.Turns (key_work_by c.args.by scene) old_seen new_seen want.roots)
    (λ want is.
    let stands = (subst (λ rs. CutInTurn e first new rs want) asked (cut_between want all [] c.in_ok-own.ensures.over (sym (append-nil all)) (is ∙ c.in_ok-own.ensures.count))).stands law calm in
    record { within = stands.0; world = stands.1 }) c.place_of_keys.ensures.roots

pub returns-clause-rounds : goal.returns-clause-rounds
returns-clause-rounds g c = record {
  whole = on_ok c.place_of_keys.result _
      (subst (λ (ts : List (Job g.row.R-Own.Denot)). RoundsWhole asked_by_job g.H.Rounds ts c.args.run.now.hooks.now c.answer_keys.new.run.hooks.now) c.empty-plan.ensures.tasks
      (whole_rounds 0 c.in_ok-own.ensures.over.enters c.in_ok-arena.ensures.states (turn_answered c.in_ok-own.ensures.over)));
  stopped = on_err c.place_of_keys.result _
      (subst (λ (ts : List (Job g.row.R-Own.Denot)). RoundsStopped asked_by_job g.H.Rounds ts c.args.run.now.hooks.now c.answer_keys.new.run.hooks.now) c.empty-plan.ensures.tasks
      (stopped_rounds 0 (so_far_enters_whole c.in_ok-own.ensures.over.enters) c.in_ok-arena.ensures.states));
}

pub returns-in_err-own-clause-idle : goal.returns-in_err-own-clause-idle
returns-in_err-own-clause-idle g c = λ none.
    let scene = c.args.scene.now in
    let asked : jobs_in c.from_vec-keys.result.items ≡ key_jobs_by c.args.by scene
    = ap jobs_in c.from_vec-keys.ensures.items ∙ c.in_ok-make_tasks.ensures ∙ ap (λ (ts : List (Task g.row.R-Own.Denot)). jobs_in ts ++ jobs_here c.in_ok-root.root.value) c.new-tasks.ensures.items
    ∙ c.in_ok-root.ensures.jobs ∙ mutation_jobs c.args.by scene c.requires in
    c.in_err-own.ensures.idle (asked ∙ none)

pub returns-clause-idle : goal.returns-clause-idle
returns-clause-idle g c = λ none.
    let scene = c.args.scene.now in
    let asked : jobs_in c.from_vec-keys.result.items ≡ key_jobs_by c.args.by scene
    = ap jobs_in c.from_vec-keys.ensures.items ∙ c.in_ok-make_tasks.ensures ∙ ap (λ (ts : List (Task g.row.R-Own.Denot)). jobs_in ts ++ jobs_here c.in_ok-root.root.value) c.new-tasks.ensures.items
    ∙ c.in_ok-root.ensures.jobs ∙ mutation_jobs c.args.by scene c.requires in
    c.in_ok-own.ensures.idle (asked ∙ none)
