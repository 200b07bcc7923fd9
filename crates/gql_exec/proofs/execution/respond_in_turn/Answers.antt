use Rattle.std.proofs.Common.{◌+◌, true, inl, inr, ap, sym, ◌∙◌}
use Rattle.gql_tasks.proofs.RootLemmas.{if_err}
use Rattle.gql_tasks.specs.Progress.{seen_in}
use Rattle.gql_exec.proofs.BareLemmas.{last-bare, serial-bare}
use Rattle.gql_exec.proofs.SchemaOnlyLemmas.{no_key_task}
use Rattle.gql_exec.proofs.ExecutionLemmas.{halts_by, response_same, runs_by}
use Rattle.gql_exec.proofs.InTurnLemmas.{all_stand, halts-in-turn-bare, in-turn-bare, stand-bare}
use Rattle.gql_engine.proofs.ApartLemmas.{serial_alike_by}
use Rattle.gql_exec.specs.Bare.{bare_scene}
use Rattle.gql_exec.specs.Execution.{HaltsAs}
use Rattle.gql_exec.specs.Joined.{tasks_by}
use Rattle.gql_meaning.specs.PlaceResponse.{response_at}
use Rattle.gql_meaning.specs.Served.{served_by}
use Rattle.gql_collect.specs.GroupFields.{keeps_whole}
use Rattle.gql_request.specs.QueryEnv.{levels_of}
use Rattle.gql_exec.proofs.execution.respond_in_turn.Goals as goal

pub returns-in_err-place-clause-halts : goal.returns-in_err-place-clause-halts
returns-in_err-place-clause-halts g c = λ lawful.
    let old = seen_in c.args.run.now in
    let new = seen_in c.run_mutation_grouped.new.run in
    let scene = c.args.scene.now in
    if_err _ (λ want. HaltsAs g.R.ResolverSet g.P.Turns old new c.args.by (bare_scene scene) want.roots) c.from_residual.result c.from_residual.ensures.1
    (λ want is. halts_by g.R.ResolverSet g.P.Turns old new c.args.by (bare_scene scene) true c.requires.kind want.roots
    (stand-bare g.R.ResolverSet g.P.Turns c.args.by scene old new want.roots ((rw (← is) at c.in_err-place.ensures.roots) lawful tt))
    (inl (halts-in-turn-bare g.R.ResolverSet g.P.Turns c.args.by scene old new (c.in_err-place.ensures.stopped lawful tt))))

pub returns-in-Err-clause-halts : goal.returns-in-Err-clause-halts
returns-in-Err-clause-halts g c = λ lawful.
    let old = seen_in c.args.run.now in
    let new = seen_in c.run_mutation_grouped.new.run in
    let scene = c.args.scene.now in
    halts_by g.R.ResolverSet g.P.Turns old new c.args.by (bare_scene scene) true c.requires.kind _
    (stand-bare g.R.ResolverSet g.P.Turns c.args.by scene old new _
    (all_stand g.R.ResolverSet g.P.Turns c.args.by scene old new _ c.in_ok-place.ensures.count (c.in_ok-place.ensures.world lawful tt)))
    (inr (in-turn-bare g.R.ResolverSet g.P.Turns c.args.by scene old new (c.in_ok-place.ensures.«record» lawful tt)))

pub returns-in-Ok-clause-runs : goal.returns-in-Ok-clause-runs
returns-in-Ok-clause-runs g c = λ lawful.
    let set = g.R.ResolverSet in
    let old = seen_in c.args.run.now in
    let new = seen_in c.run_mutation_grouped.new.run in
    let scene = c.args.scene.now in
    let env = scene.env.now in
    let answer = set.answer (set.rules old.set) in
    let effect = set.effect (set.rules old.set) in
    runs_by set g.P.Turns old new c.args.by (bare_scene scene) true c.requires.kind c.in-Ok.response
    (c.in-Ok.ensures
    ∙ response_same (keeps_whole c.args.by) _ _ (c.in_ok-place.ensures.places lawful tt (levels_of env) env.nests)
    ∙ ap response_at (serial_alike_by scene answer effect (set.world old.set) c.args.by (levels_of env) c.requires.agrees ∙ sym (serial-bare answer effect scene (set.world old.set) (levels_of env))))
    (c.in_ok-place.ensures.world lawful tt ∙ sym (last-bare answer effect scene (set.world old.set)))
    (in-turn-bare set g.P.Turns c.args.by scene old new (c.in_ok-place.ensures.«record» lawful tt))

pub returns-in-Ok-clause-asked : goal.returns-in-Ok-clause-asked
returns-in-Ok-clause-asked g c = λ lawful.
    let scene = c.args.scene.now in
    let env = scene.env.now in
    c.in_ok-place.ensures.asked lawful tt (levels_of env) env.nests
    ∙ ap (λ m. c.args.run.now.steps.now + tasks_by (served_by g.R.ResolverSet c.args.run.now.set.now) c.args.by m scene) (sym c.requires.kind)

pub returns-in_err-place-clause-idle : goal.returns-in_err-place-clause-idle
returns-in_err-place-clause-idle g c = λ only. c.in_err-place.ensures.idle (no_key_task c.args.by c.args.scene.now only)

pub returns-in-Err-clause-idle : goal.returns-in-Err-clause-idle
returns-in-Err-clause-idle g c = λ only. c.in_ok-place.ensures.idle (no_key_task c.args.by c.args.scene.now only)

pub returns-in-Ok-clause-idle : goal.returns-in-Ok-clause-idle
returns-in-Ok-clause-idle g c = λ only. c.in_ok-place.ensures.idle (no_key_task c.args.by c.args.scene.now only)
