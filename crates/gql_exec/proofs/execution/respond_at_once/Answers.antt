use Rattle.std.proofs.Common.{◌+◌, false, inl, inr, ap, refl, sym, ◌∙◌}
use Rattle.gql_tasks.proofs.RootLemmas.{if_err}
use Rattle.gql_tasks.specs.Parts.{due_by}
use Rattle.gql_tasks.specs.Progress.{seen_in}
use Rattle.gql_exec.proofs.BareLemmas.{response-bare, stopped-bare, whole-bare}
use Rattle.gql_exec.proofs.SchemaOnlyLemmas.{no_query_task}
use Rattle.gql_exec.proofs.ExecutionLemmas.{halts_by, response_same, runs_by}
use Rattle.gql_engine.proofs.ApartLemmas.{alike_by}
use Rattle.gql_exec.specs.Bare.{bare_scene}
use Rattle.gql_exec.specs.Execution.{HaltsAs}
use Rattle.gql_exec.specs.Joined.{tasks_by}
use Rattle.gql_meaning.specs.PlaceResponse.{response_at}
use Rattle.gql_meaning.specs.Served.{served_by}
use Rattle.gql_collect.specs.GroupFields.{keeps_whole}
use Rattle.gql_request.specs.QueryEnv.{levels_of}
use Rattle.gql_exec.proofs.execution.respond_at_once.Goals as goal

pub returns-in_err-place-clause-halts : goal.returns-in_err-place-clause-halts
returns-in_err-place-clause-halts g c = λ lawful.
    let old = seen_in c.args.run.now in
    let new = seen_in c.run_grouped.new.run in
    let scene = c.args.scene.now in
    if_err _ (λ want. HaltsAs g.R.ResolverSet g.P.Turns old new c.args.by (bare_scene scene) want.roots) c.from_residual.result c.from_residual.ensures.1
    (λ want is. halts_by g.R.ResolverSet g.P.Turns old new c.args.by (bare_scene scene) false c.requires.kind want.roots
    (ap (λ w. w.roots) is ∙ c.in_err-place.ensures.roots, c.in_err-place.ensures.world lawful)
    (inl (stopped-bare g.R.ResolverSet g.P.Turns c.args.by scene old new (c.in_err-place.ensures.stopped lawful tt))))

pub returns-in-Err-clause-halts : goal.returns-in-Err-clause-halts
returns-in-Err-clause-halts g c = λ lawful.
    let old = seen_in c.args.run.now in
    let new = seen_in c.run_grouped.new.run in
    let scene = c.args.scene.now in
    halts_by g.R.ResolverSet g.P.Turns old new c.args.by (bare_scene scene) false c.requires.kind 0 (refl, c.in_ok-place.ensures.world lawful)
    (inr (whole-bare g.R.ResolverSet g.P.Turns c.args.by scene old new (c.in_ok-place.ensures.«record» lawful tt)))

pub returns-in-Ok-clause-runs : goal.returns-in-Ok-clause-runs
returns-in-Ok-clause-runs g c = λ lawful.
    let old = seen_in c.args.run.now in
    let new = seen_in c.run_grouped.new.run in
    let scene = c.args.scene.now in
    let env = scene.env.now in
    let answer = due_by g.R.ResolverSet c.args.run.now.set.now in
    runs_by g.R.ResolverSet g.P.Turns old new c.args.by (bare_scene scene) false c.requires.kind c.in-Ok.response
    (c.in-Ok.ensures ∙ response_same (keeps_whole c.args.by) _ _ (c.in_ok-place.ensures.places lawful tt (levels_of env) env.nests)
    ∙ ap response_at (alike_by scene c.args.by answer (levels_of env) c.requires.agrees ∙ sym (response-bare scene answer (levels_of env))))
    (c.in_ok-place.ensures.world lawful) (whole-bare g.R.ResolverSet g.P.Turns c.args.by scene old new (c.in_ok-place.ensures.«record» lawful tt))

pub returns-in-Ok-clause-asked : goal.returns-in-Ok-clause-asked
returns-in-Ok-clause-asked g c = λ lawful.
    let scene = c.args.scene.now in
    let env = scene.env.now in
    c.in_ok-place.ensures.asked lawful tt (levels_of env) env.nests
    ∙ ap (λ m. c.args.run.now.steps.now + tasks_by (served_by g.R.ResolverSet c.args.run.now.set.now) c.args.by m scene) (sym c.requires.kind)

pub returns-in_err-place-clause-idle : goal.returns-in_err-place-clause-idle
returns-in_err-place-clause-idle g c = λ only. c.in_err-place.ensures.idle (no_query_task c.args.by c.args.scene.now only)

pub returns-in-Err-clause-idle : goal.returns-in-Err-clause-idle
returns-in-Err-clause-idle g c = λ only. c.in_ok-place.ensures.idle (no_query_task c.args.by c.args.scene.now only)

pub returns-in-Ok-clause-idle : goal.returns-in-Ok-clause-idle
returns-in-Ok-clause-idle g c = λ only. c.in_ok-place.ensures.idle (no_query_task c.args.by c.args.scene.now only)
