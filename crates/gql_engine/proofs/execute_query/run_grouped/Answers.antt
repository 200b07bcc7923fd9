use Rattle.std.proofs.Common.{◌≡◌, ◌∷◌, [], length, false, take, sym, ap, subst, ◌∙◌, refl}
use Rattle.std.specs.Prelude.{slice_get}
use Rattle.std.proofs.lemmas.List.{length-map}
use Rattle.gql_tasks.proofs.AdvanceLemmas.{on_err}
use Rattle.gql_tasks.proofs.PaceLemmas.{each_paced}
use Rattle.gql_tasks.proofs.RoundLemmas.{no_rounds, rounds_err, so_far_enters_whole, stopped_rounds, whole_rounds}
use Rattle.gql_tasks.proofs.RunLemmas.{all_answered, first_sound, none_waits}
use Rattle.gql_tasks.proofs.SoFarLemmas.{each_so_far, so_far_whole}
use Rattle.gql_tasks.specs.Parts.{at, due_by}
use Rattle.gql_tasks.specs.Progress.{seen_in}
use Rattle.gql_tasks.specs.Rounds.{KeepNumbers, RoundsStopped, RoundsWhole}
use Rattle.gql_resolve.specs.Call.{is_mutation}
use Rattle.gql_objects.specs.Assembly.{AreApart, IsAssembled}
use Rattle.gql_objects.specs.KeptTasks.{store_in}
use Rattle.gql_engine.specs.GivenTasks.{asked_by_job}
use Rattle.gql_objects.specs.Jobs.{Job}
use Rattle.gql_engine.specs.NeverRoots.{no_roots}
use Rattle.gql_objects.specs.Parents.{standing_behind}
use Rattle.gql_engine.specs.ExecuteQuery.{basis_by, root_jobs_by, root_selections, root_spot}
use Rattle.gql_objects.specs.Tasks.{job_of_task, jobs_in}
use Rattle.gql_objects.proofs.ObjectLevelLemmas.{every_at}
use Rattle.gql_engine.proofs.QueryLemmas.{all_held, answers_due, apart_root, Begins, due_agrees, Finishes, query_jobs, query_stands, response_is, roots_enough, runs_whole, steps_end, stopped_none, stopped_run, whole_ran}
use Rattle.gql_engine.proofs.execute_query.run_grouped.Goals as goal

pub returns-in_err-root-clause-stopped : goal.returns-in_err-root-clause-stopped
returns-in_err-root-clause-stopped g c = λ law calm. on_err c.from_residual.result _
    (stopped_none g.R.ResolverSet g.P.Turns c.args.by c.args.scene.now (seen_in c.args.run.now) (seen_in c.args.run.now) refl refl)

pub returns-in_err-root-clause-rounds : goal.returns-in_err-root-clause-rounds
returns-in_err-root-clause-rounds g c = rounds_err _ c.from_residual.result c.from_residual.ensures.1 (no_rounds {asks = asked_by_job} {hooks = g.H.Rounds} (root_jobs_by c.args.by c.args.scene.now) c.args.run.now.hooks.now)

pub returns-in_err-plan-clause-stopped : goal.returns-in_err-plan-clause-stopped
returns-in_err-plan-clause-stopped g c = λ law calm. on_err c.from_residual-in_err-plan.result _
    (stopped_none g.R.ResolverSet g.P.Turns c.args.by c.args.scene.now (seen_in c.args.run.now) (seen_in c.args.run.now) refl refl)

pub returns-in_err-plan-clause-rounds : goal.returns-in_err-plan-clause-rounds
returns-in_err-plan-clause-rounds g c = rounds_err _ c.from_residual-in_err-plan.result c.from_residual-in_err-plan.ensures.1 (no_rounds {asks = asked_by_job} {hooks = g.H.Rounds} (root_jobs_by c.args.by c.args.scene.now) c.args.run.now.hooks.now)

pub returns-in_err-arena-clause-stopped : goal.returns-in_err-arena-clause-stopped
returns-in_err-arena-clause-stopped g c = λ law calm. on_err c.from_residual-in_err-arena.result _
    (stopped_none g.R.ResolverSet g.P.Turns c.args.by c.args.scene.now (seen_in c.args.run.now) (seen_in c.args.run.now) refl refl)

pub returns-in_err-arena-clause-rounds : goal.returns-in_err-arena-clause-rounds
returns-in_err-arena-clause-rounds g c = rounds_err _ c.from_residual-in_err-arena.result c.from_residual-in_err-arena.ensures.1 (no_rounds {asks = asked_by_job} {hooks = g.H.Rounds} (root_jobs_by c.args.by c.args.scene.now) c.args.run.now.hooks.now)

pub finish-requires : goal.finish-requires
finish-requires g c =
    let asked : jobs_in c.in_ok-plan.plan.tasks.items ≡ root_jobs_by c.args.by c.args.scene.now
    = c.in_ok-plan.ensures ∙ c.in_ok-root.ensures.jobs ∙ query_jobs c.args.by c.args.scene.now c.requires in
    let n_is : c.len.result ≡ length (jobs_in c.in_ok-plan.plan.tasks.items)
    = c.len.ensures ∙ c.in_ok-plan.plan.tasks.ok.0 ∙ sym (length-map c.in_ok-plan.plan.tasks.items job_of_task) in
    record {
      sound = first_sound (at c.in_ok-plan.plan c.in_ok-arena.arena c.args.run.now) c.len.result
          c.in_ok-arena.ensures.states n_is c.in_ok-arena.ensures.waits
          (λ number task is. every_at (λ (j : Job g.row.R-Own.Denot). j.asking.call.is_root ≡ false) (root_jobs_by c.args.by c.args.scene.now) number task
          (no_roots (basis_by c.args.by c.args.scene.now) (root_selections c.args.scene.now) (root_spot c.args.scene.now)) (ap (λ ts. slice_get ts number) (sym asked) ∙ is));
    }

pub returns-in_err-finish-clause-stopped : goal.returns-in_err-finish-clause-stopped
returns-in_err-finish-clause-stopped g c = λ law calm.
    let asked : jobs_in c.in_ok-plan.plan.tasks.items ≡ root_jobs_by c.args.by c.args.scene.now
    = c.in_ok-plan.ensures ∙ c.in_ok-root.ensures.jobs ∙ query_jobs c.args.by c.args.scene.now c.requires in
    let n_is : c.len.result ≡ length (jobs_in c.in_ok-plan.plan.tasks.items)
    = c.len.ensures ∙ c.in_ok-plan.plan.tasks.ok.0 ∙ sym (length-map c.in_ok-plan.plan.tasks.items job_of_task) in
    let old = seen_in c.args.run.now in
    let new = seen_in c.finish.new.run in
    let first = jobs_in c.in_ok-plan.plan.tasks.items in
    let begins : Begins g.R.ResolverSet g.P.Turns c.args.by c.args.scene.now old first c.in_ok-arena.arena.states.items = record {
      n = c.len.result;
      first_is = asked;
      states_is = c.in_ok-arena.ensures.states;
      n_is = n_is;
    } in
    let so_far = c.in_err-finish.ensures.stretch.ended.progress law calm (answers_due g.R.ResolverSet g.P.Turns c.args.by c.args.scene.now old)
    (due_agrees g.R.ResolverSet g.P.Turns c.args.by c.args.scene.now old) in
    on_err c.from_residual-in_err-finish.result _ (stopped_run g.R.ResolverSet g.P.Turns c.args.by c.args.scene.now old first c.in_ok-arena.arena.states.items begins new
    (record { stopped = so_far.stopped; paces = each_so_far c.len.result so_far c.in_ok-arena.ensures.states }))

pub returns-in_err-place_of_root-clause-stopped : goal.returns-in_err-place_of_root-clause-stopped
returns-in_err-place_of_root-clause-stopped g c = λ law calm.
    let asked : jobs_in c.in_ok-plan.plan.tasks.items ≡ root_jobs_by c.args.by c.args.scene.now
    = c.in_ok-plan.ensures ∙ c.in_ok-root.ensures.jobs ∙ query_jobs c.args.by c.args.scene.now c.requires in
    let n_is : c.len.result ≡ length (jobs_in c.in_ok-plan.plan.tasks.items)
    = c.len.ensures ∙ c.in_ok-plan.plan.tasks.ok.0 ∙ sym (length-map c.in_ok-plan.plan.tasks.items job_of_task) in
    let old = seen_in c.args.run.now in
    let new = seen_in c.finish.new.run in
    let first = jobs_in c.in_ok-plan.plan.tasks.items in
    let begins : Begins g.R.ResolverSet g.P.Turns c.args.by c.args.scene.now old first c.in_ok-arena.arena.states.items = record {
      n = c.len.result;
      first_is = asked;
      states_is = c.in_ok-arena.ensures.states;
      n_is = n_is;
    } in
    let went = c.in_ok-finish.ensures.stretch.went in
    let kept = c.in_ok-finish.ensures.stretch.kept.steady in
    let so_far = so_far_whole kept.rules_is kept.paced_is (went.passed.progress law calm (answers_due g.R.ResolverSet g.P.Turns c.args.by c.args.scene.now old)
    (due_agrees g.R.ResolverSet g.P.Turns c.args.by c.args.scene.now old)) (λ pace. went.passed.paces pace calm) in
    on_err c.from_residual-in_err-place_of_root.result _ (stopped_run g.R.ResolverSet g.P.Turns c.args.by c.args.scene.now old first c.in_ok-arena.arena.states.items begins new
    (record { stopped = so_far.stopped; paces = each_so_far c.len.result so_far c.in_ok-arena.ensures.states }))

pub returns-clause-places : goal.returns-clause-places
returns-clause-places g c = λ law calm n nests.
    let asked : jobs_in c.in_ok-plan.plan.tasks.items ≡ root_jobs_by c.args.by c.args.scene.now
    = c.in_ok-plan.ensures ∙ c.in_ok-root.ensures.jobs ∙ query_jobs c.args.by c.args.scene.now c.requires in
    let n_is : c.len.result ≡ length (jobs_in c.in_ok-plan.plan.tasks.items)
    = c.len.ensures ∙ c.in_ok-plan.plan.tasks.ok.0 ∙ sym (length-map c.in_ok-plan.plan.tasks.items job_of_task) in
    let old = seen_in c.args.run.now in
    let new = seen_in c.finish.new.run in
    let first = jobs_in c.in_ok-plan.plan.tasks.items in
    let begins : Begins g.R.ResolverSet g.P.Turns c.args.by c.args.scene.now old first c.in_ok-arena.arena.states.items = record {
      n = c.len.result;
      first_is = asked;
      states_is = c.in_ok-arena.ensures.states;
      n_is = n_is;
    } in
    let went = c.in_ok-finish.ensures.stretch.went in
    let progress = went.passed.progress law calm (answers_due g.R.ResolverSet g.P.Turns c.args.by c.args.scene.now old) (due_agrees g.R.ResolverSet g.P.Turns c.args.by c.args.scene.now old) in
    let last = jobs_in c.finish.new.plan.tasks.items in
    let store = store_in c.in_ok-plan.plan.kept.items c.in_ok-plan.plan.places.items in
    let store' = store_in c.finish.new.plan.kept.items c.finish.new.plan.places.items in
    let finishes : Finishes g.R.ResolverSet g.P.Turns c.args.by c.args.scene.now old new first last store store' c.in_ok-arena.arena.states.items c.finish.new.arena.states.items = record {
      lengths = went.sound.lengths;
      whole = sym went.sound.waits ∙ c.in_ok-finish.ensures.answered;
      base = c.in_ok-plan.plan.base;
      base' = c.finish.new.plan.base;
      right = progress.right 0;
      ran = progress.ran;
    } in
    let keeps = subst (λ js. KeepNumbers js last) asked went.passed.enters.stays in
    response_is c.args.by c.args.scene.now (due_by g.R.ResolverSet c.args.run.now.set.now) (standing_behind c.in_ok-root.root) c.finish.new.plan.roots last
    c.in_ok-place_of_root.field-0 n (c.in_ok-root.ensures.stands ∙ query_stands c.args.by c.args.scene.now c.requires) keeps
    (roots_enough c.args.by c.args.scene.now c.finish.new.plan.tasks.items c.finish.new.plan.roots keeps c.finish.new.plan.deep)
    (subst (λ b. IsAssembled (due_by g.R.ResolverSet c.args.run.now.set.now) b c.args.scene.now.env.now.operation.pos (standing_behind c.in_ok-root.root)
    (take c.finish.new.plan.roots last) c.in_ok-place_of_root.field-0) c.keeps_whole-whole.ensures
    (c.in_ok-place_of_root.ensures (due_by g.R.ResolverSet c.args.run.now.set.now)
    (all_held g.R.ResolverSet g.P.Turns c.args.by c.args.scene.now old first c.in_ok-arena.arena.states.items begins new last store store' c.finish.new.arena.states.items finishes)
    (subst (λ b. AreApart b (standing_behind c.in_ok-root.root ∷ [])) (sym c.keeps_whole-whole.ensures)
    (apart_root (is_mutation c.args.scene.now.env.now.operation.node.ty) c.args.by c.args.scene.now (standing_behind c.in_ok-root.root) c.in_ok-root.ensures.stands)))) nests

pub returns-clause-record : goal.returns-clause-record
returns-clause-record g c = λ law calm.
    let asked : jobs_in c.in_ok-plan.plan.tasks.items ≡ root_jobs_by c.args.by c.args.scene.now
    = c.in_ok-plan.ensures ∙ c.in_ok-root.ensures.jobs ∙ query_jobs c.args.by c.args.scene.now c.requires in
    let n_is : c.len.result ≡ length (jobs_in c.in_ok-plan.plan.tasks.items)
    = c.len.ensures ∙ c.in_ok-plan.plan.tasks.ok.0 ∙ sym (length-map c.in_ok-plan.plan.tasks.items job_of_task) in
    let old = seen_in c.args.run.now in
    let new = seen_in c.finish.new.run in
    let first = jobs_in c.in_ok-plan.plan.tasks.items in
    let begins : Begins g.R.ResolverSet g.P.Turns c.args.by c.args.scene.now old first c.in_ok-arena.arena.states.items = record {
      n = c.len.result;
      first_is = asked;
      states_is = c.in_ok-arena.ensures.states;
      n_is = n_is;
    } in
    let went = c.in_ok-finish.ensures.stretch.went in
    let progress = went.passed.progress law calm (answers_due g.R.ResolverSet g.P.Turns c.args.by c.args.scene.now old) (due_agrees g.R.ResolverSet g.P.Turns c.args.by c.args.scene.now old) in
    let last = jobs_in c.finish.new.plan.tasks.items in
    let store = store_in c.in_ok-plan.plan.kept.items c.in_ok-plan.plan.places.items in
    let store' = store_in c.finish.new.plan.kept.items c.finish.new.plan.places.items in
    let finishes : Finishes g.R.ResolverSet g.P.Turns c.args.by c.args.scene.now old new first last store store' c.in_ok-arena.arena.states.items c.finish.new.arena.states.items = record {
      lengths = went.sound.lengths;
      whole = sym went.sound.waits ∙ c.in_ok-finish.ensures.answered;
      base = c.in_ok-plan.plan.base;
      base' = c.finish.new.plan.base;
      right = progress.right 0;
      ran = progress.ran;
    } in
    let ran = whole_ran g.R.ResolverSet g.P.Turns c.args.by c.args.scene.now old first c.in_ok-arena.arena.states.items begins new last store store' c.finish.new.arena.states.items finishes in
    runs_whole g.R.ResolverSet g.P.Turns c.args.by c.args.scene.now old first c.in_ok-arena.arena.states.items begins new last store store' c.finish.new.arena.states.items finishes
    (λ pace before some. each_paced before ran.entries c.len.result (went.passed.paces pace calm) some ran.told_is c.in_ok-arena.ensures.states (all_answered went.sound c.in_ok-finish.ensures.answered))

pub returns-clause-asked : goal.returns-clause-asked
returns-clause-asked g c = λ law calm n nests.
    let asked : jobs_in c.in_ok-plan.plan.tasks.items ≡ root_jobs_by c.args.by c.args.scene.now
    = c.in_ok-plan.ensures ∙ c.in_ok-root.ensures.jobs ∙ query_jobs c.args.by c.args.scene.now c.requires in
    let n_is : c.len.result ≡ length (jobs_in c.in_ok-plan.plan.tasks.items)
    = c.len.ensures ∙ c.in_ok-plan.plan.tasks.ok.0 ∙ sym (length-map c.in_ok-plan.plan.tasks.items job_of_task) in
    let old = seen_in c.args.run.now in
    let new = seen_in c.finish.new.run in
    let first = jobs_in c.in_ok-plan.plan.tasks.items in
    let begins : Begins g.R.ResolverSet g.P.Turns c.args.by c.args.scene.now old first c.in_ok-arena.arena.states.items = record {
      n = c.len.result;
      first_is = asked;
      states_is = c.in_ok-arena.ensures.states;
      n_is = n_is;
    } in
    let went = c.in_ok-finish.ensures.stretch.went in
    let progress = went.passed.progress law calm (answers_due g.R.ResolverSet g.P.Turns c.args.by c.args.scene.now old) (due_agrees g.R.ResolverSet g.P.Turns c.args.by c.args.scene.now old) in
    let last = jobs_in c.finish.new.plan.tasks.items in
    let store = store_in c.in_ok-plan.plan.kept.items c.in_ok-plan.plan.places.items in
    let store' = store_in c.finish.new.plan.kept.items c.finish.new.plan.places.items in
    let finishes : Finishes g.R.ResolverSet g.P.Turns c.args.by c.args.scene.now old new first last store store' c.in_ok-arena.arena.states.items c.finish.new.arena.states.items = record {
      lengths = went.sound.lengths;
      whole = sym went.sound.waits ∙ c.in_ok-finish.ensures.answered;
      base = c.in_ok-plan.plan.base;
      base' = c.finish.new.plan.base;
      right = progress.right 0;
      ran = progress.ran;
    } in
    steps_end g.R.ResolverSet g.P.Turns c.args.by c.args.scene.now old first c.in_ok-arena.arena.states.items begins new last store store' c.finish.new.arena.states.items finishes
    n nests c.args.run.now.steps.now c.finish.new.run.steps.now (went.passed.stepped calm)

pub returns-in_err-finish-clause-rounds : goal.returns-in_err-finish-clause-rounds
returns-in_err-finish-clause-rounds g c =
    let asked : jobs_in c.in_ok-plan.plan.tasks.items ≡ root_jobs_by c.args.by c.args.scene.now
    = c.in_ok-plan.ensures ∙ c.in_ok-root.ensures.jobs ∙ query_jobs c.args.by c.args.scene.now c.requires in
    rounds_err _ c.from_residual-in_err-finish.result c.from_residual-in_err-finish.ensures.1
    (subst (λ ts. RoundsStopped asked_by_job g.H.Rounds ts c.args.run.now.hooks.now c.finish.new.run.hooks.now) asked
    (stopped_rounds c.len.result c.in_err-finish.ensures.stretch.ended.enters c.in_ok-arena.ensures.states))

pub returns-in_err-place_of_root-clause-rounds : goal.returns-in_err-place_of_root-clause-rounds
returns-in_err-place_of_root-clause-rounds g c =
    let asked : jobs_in c.in_ok-plan.plan.tasks.items ≡ root_jobs_by c.args.by c.args.scene.now
    = c.in_ok-plan.ensures ∙ c.in_ok-root.ensures.jobs ∙ query_jobs c.args.by c.args.scene.now c.requires in
    rounds_err _ c.from_residual-in_err-place_of_root.result c.from_residual-in_err-place_of_root.ensures.1
    (subst (λ ts. RoundsStopped asked_by_job g.H.Rounds ts c.args.run.now.hooks.now c.finish.new.run.hooks.now) asked
    (stopped_rounds c.len.result (so_far_enters_whole c.in_ok-finish.ensures.stretch.went.passed.enters) c.in_ok-arena.ensures.states))

pub returns-clause-rounds : goal.returns-clause-rounds
returns-clause-rounds g c =
    let asked : jobs_in c.in_ok-plan.plan.tasks.items ≡ root_jobs_by c.args.by c.args.scene.now
    = c.in_ok-plan.ensures ∙ c.in_ok-root.ensures.jobs ∙ query_jobs c.args.by c.args.scene.now c.requires in
    let went = c.in_ok-finish.ensures.stretch.went in
    record {
      whole = subst (λ ts. RoundsWhole asked_by_job g.H.Rounds ts c.args.run.now.hooks.now c.finish.new.run.hooks.now) asked
          (whole_rounds c.len.result went.passed.enters c.in_ok-arena.ensures.states (all_answered went.sound c.in_ok-finish.ensures.answered));
      stopped = tt;
    }

pub returns-in_err-finish-clause-idle : goal.returns-in_err-finish-clause-idle
returns-in_err-finish-clause-idle g c = λ none.
    let asked : jobs_in c.in_ok-plan.plan.tasks.items ≡ root_jobs_by c.args.by c.args.scene.now
    = c.in_ok-plan.ensures ∙ c.in_ok-root.ensures.jobs ∙ query_jobs c.args.by c.args.scene.now c.requires in
    let n_is : c.len.result ≡ length (jobs_in c.in_ok-plan.plan.tasks.items)
    = c.len.ensures ∙ c.in_ok-plan.plan.tasks.ok.0 ∙ sym (length-map c.in_ok-plan.plan.tasks.items job_of_task) in
    c.in_err-finish.ensures.idle (none_waits c.in_ok-arena.arena.waiting c.in_ok-arena.arena.states.items c.len.result (jobs_in c.in_ok-plan.plan.tasks.items)
    c.in_ok-arena.ensures.waits c.in_ok-arena.ensures.states n_is (asked ∙ none))

pub returns-in_err-place_of_root-clause-idle : goal.returns-in_err-place_of_root-clause-idle
returns-in_err-place_of_root-clause-idle g c = λ none.
    let asked : jobs_in c.in_ok-plan.plan.tasks.items ≡ root_jobs_by c.args.by c.args.scene.now
    = c.in_ok-plan.ensures ∙ c.in_ok-root.ensures.jobs ∙ query_jobs c.args.by c.args.scene.now c.requires in
    let n_is : c.len.result ≡ length (jobs_in c.in_ok-plan.plan.tasks.items)
    = c.len.ensures ∙ c.in_ok-plan.plan.tasks.ok.0 ∙ sym (length-map c.in_ok-plan.plan.tasks.items job_of_task) in
    c.in_ok-finish.ensures.idle (none_waits c.in_ok-arena.arena.waiting c.in_ok-arena.arena.states.items c.len.result (jobs_in c.in_ok-plan.plan.tasks.items)
    c.in_ok-arena.ensures.waits c.in_ok-arena.ensures.states n_is (asked ∙ none))

pub returns-clause-idle : goal.returns-clause-idle
returns-clause-idle g c = λ none.
    let asked : jobs_in c.in_ok-plan.plan.tasks.items ≡ root_jobs_by c.args.by c.args.scene.now
    = c.in_ok-plan.ensures ∙ c.in_ok-root.ensures.jobs ∙ query_jobs c.args.by c.args.scene.now c.requires in
    let n_is : c.len.result ≡ length (jobs_in c.in_ok-plan.plan.tasks.items)
    = c.len.ensures ∙ c.in_ok-plan.plan.tasks.ok.0 ∙ sym (length-map c.in_ok-plan.plan.tasks.items job_of_task) in
    c.in_ok-finish.ensures.idle (none_waits c.in_ok-arena.arena.waiting c.in_ok-arena.arena.states.items c.len.result (jobs_in c.in_ok-plan.plan.tasks.items)
    c.in_ok-arena.ensures.waits c.in_ok-arena.ensures.states n_is (asked ∙ none))
