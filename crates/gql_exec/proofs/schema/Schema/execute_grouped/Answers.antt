use Rattle.gql_tasks.specs.Progress.{seen_in}
use Rattle.gql_exec.proofs.JoinedLemmas.{agrees_ready}
use Rattle.gql_exec.proofs.CountingLemmas.{counts_by_root, counts_by_stage, counts_tasks}
use Rattle.gql_exec.proofs.ExecutionLemmas.{executes, executes_by_root, executes_by_stage, halts}
use Rattle.gql_exec.proofs.SchemaOnlyLemmas.{scene_only}
use Rattle.gql_exec.specs.Execution.{asks}
use Rattle.gql_exec.proofs.schema.Schema.execute_grouped.Goals as goal

pub returns-in-Ok-root_for-clause-executed : goal.returns-in-Ok-root_for-clause-executed
returns-in-Ok-root_for-clause-executed g c =
    executes g.R.ResolverSet g.P.Turns (seen_in c.args.run.now) (seen_in c.respond.new.run)
    c.args.by (asks c.args.self.now c.args.request.now) c.in-Ok.env c.in-Ok-root_for.object.now c.scene-scene.result
    record {
      ready = rw c.in-Ok.is at c.in_ok-env.ensures;
      root = rw c.in-Ok-root_for.is at c.root_for.ensures;
      same = c.scene-scene.ensures.shows;
    }
    c.respond.result c.respond.ensures.runs

pub returns-in-Ok-root_for-clause-stopped : goal.returns-in-Ok-root_for-clause-stopped
returns-in-Ok-root_for-clause-stopped g c =
    halts g.R.ResolverSet g.P.Turns (seen_in c.args.run.now) (seen_in c.respond.new.run)
    c.args.by (asks c.args.self.now c.args.request.now) c.in-Ok.env c.in-Ok-root_for.object.now c.scene-scene.result
    record {
      ready = rw c.in-Ok.is at c.in_ok-env.ensures;
      root = rw c.in-Ok-root_for.is at c.root_for.ensures;
      same = c.scene-scene.ensures.shows;
    }
    c.respond.result c.respond.ensures.roots c.respond.ensures.halts

pub respond-requires-clause-agrees : goal.respond-requires-clause-agrees
respond-requires-clause-agrees g c =
    agrees_ready c.args.self.now c.args.request.now c.in-Ok.env c.in-Ok-root_for.object.now c.scene-scene.result
    (rw c.in-Ok.is at c.in_ok-env.ensures) (rw c.in-Ok-root_for.is at c.root_for.ensures) c.scene-scene.ensures.shows

pub returns-in-Ok-root_for-clause-asked : goal.returns-in-Ok-root_for-clause-asked
returns-in-Ok-root_for-clause-asked g c =
    counts_tasks g.R.ResolverSet c.args.run.now.set.now (asks c.args.self.now c.args.request.now) c.args.run.now.steps.now c.respond.new.run.steps.now
    c.args.by c.scene-scene.result
    record {
      env = c.in-Ok.env;
      object = c.in-Ok-root_for.object.now;
      ready = rw c.in-Ok.is at c.in_ok-env.ensures;
      root = rw c.in-Ok-root_for.is at c.root_for.ensures;
      is = c.scene-scene.ensures.shows;
    }
    c.respond.result c.respond.ensures.asked

pub returns-in-Ok-root_for-clause-idle : goal.returns-in-Ok-root_for-clause-idle
returns-in-Ok-root_for-clause-idle g c = λ only.
    c.respond.ensures.idle
    (scene_only c.args.self.now c.args.request.now c.in-Ok.env c.in-Ok-root_for.object.now c.scene-scene.result only
    (rw c.in-Ok.is at c.in_ok-env.ensures) c.scene-scene.ensures.shows)

-- its operation has no root
pub returns-in-Ok-clause-executed : goal.returns-in-Ok-clause-executed
returns-in-Ok-clause-executed g c =
    executes_by_root g.R.ResolverSet g.P.Turns (seen_in c.args.run.now) (asks c.args.self.now c.args.request.now) c.args.by
    c.in-Ok.env c.in-Err-root_for.text.now c.in_ok-fault-in-Err-root_for.field-0
    (rw c.in-Ok.is at c.in_ok-env.ensures) c.in-Err-root_for.ensures c.in_ok-fault-in-Err-root_for.ensures

pub returns-in-Ok-clause-asked : goal.returns-in-Ok-clause-asked
returns-in-Ok-clause-asked g c =
    counts_by_root g.R.ResolverSet c.args.run.now.set.now c.args.by (asks c.args.self.now c.args.request.now) c.args.run.now.steps.now
    c.in-Ok.env c.in-Err-root_for.text.now (rw c.in-Ok.is at c.in_ok-env.ensures) c.in-Err-root_for.ensures

-- a stage refuses it
pub returns-clause-executed : goal.returns-clause-executed
returns-clause-executed g c =
    executes_by_stage g.R.ResolverSet g.P.Turns (seen_in c.args.run.now) (asks c.args.self.now c.args.request.now) c.args.by
    c.in-Err.errors c.from_errors.result (rw c.in-Err.is at c.in_ok-env.ensures) c.from_errors.ensures

pub returns-clause-asked : goal.returns-clause-asked
returns-clause-asked g c =
    counts_by_stage g.R.ResolverSet c.args.run.now.set.now c.args.by (asks c.args.self.now c.args.request.now) c.args.run.now.steps.now
    c.in-Err.errors (rw c.in-Err.is at c.in_ok-env.ensures)
