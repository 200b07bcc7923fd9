use Rattle.gql_tasks.specs.Progress.{seen}
use Rattle.gql_exec.proofs.BatchLemmas.{ends_behind, ends_next, goes_on, one_of, stops_of}
use Rattle.gql_exec.proofs.schema.Schema.execute_batch.Goals as goal

pub loop-request-preserved : goal.loop-request-preserved
loop-request-preserved g c =
    goes_on g.R.ResolverSet g.P.Turns c.args.self.now c.args.requests.now c.loop-request.request-index c.request-item.result c.loop-request.responses
    (seen c.args.resolvers.now c.args.turns.now) (seen c.loop-request.resolvers c.loop-request.turns) (seen c.execute.new.resolvers c.execute.new.turns)
    c.in-Ok.response c.push.new.self c.loop-request.invariant c.loop-request-test.true c.request-item.is
    (one_of g.R.ResolverSet g.P.Turns c.args.self.now c.request-item.result c.in-Ok.response
    (seen c.loop-request.resolvers c.loop-request.turns) (seen c.execute.new.resolvers c.execute.new.turns)
    c.in-Ok.ensures.response c.in-Ok.ensures.world c.in-Ok.ensures.refused c.execute.ensures.untouched c.in-Ok.ensures.«record» c.execute.ensures.keeps c.execute.ensures.idle)
    c.in-Ok-push.ensures.ok

pub returns-in-Err-push-clause-stopped : goal.returns-in-Err-push-clause-stopped
returns-in-Err-push-clause-stopped g c =
    ends_behind g.R.ResolverSet g.P.Turns c.args.self.now c.args.requests.now c.loop-request.request-index c.request-item.result c.loop-request.responses
    (seen c.args.resolvers.now c.args.turns.now) (seen c.loop-request.resolvers c.loop-request.turns) (seen c.execute.new.resolvers c.execute.new.turns)
    c.in-Ok.response c.len-done.result c.loop-request.invariant c.loop-request-test.true c.request-item.is
    (one_of g.R.ResolverSet g.P.Turns c.args.self.now c.request-item.result c.in-Ok.response
    (seen c.loop-request.resolvers c.loop-request.turns) (seen c.execute.new.resolvers c.execute.new.turns)
    c.in-Ok.ensures.response c.in-Ok.ensures.world c.in-Ok.ensures.refused c.execute.ensures.untouched c.in-Ok.ensures.«record» c.execute.ensures.keeps c.execute.ensures.idle)
    c.len-done.ensures

pub returns-in-Err-clause-stopped : goal.returns-in-Err-clause-stopped
returns-in-Err-clause-stopped g c =
    ends_next g.R.ResolverSet g.P.Turns c.args.self.now c.args.requests.now c.loop-request.request-index c.request-item.result c.loop-request.responses
    (seen c.args.resolvers.now c.args.turns.now) (seen c.loop-request.resolvers c.loop-request.turns) (seen c.execute.new.resolvers c.execute.new.turns)
    c.len-done.result c.in-Err.want.roots c.loop-request.invariant c.loop-request-test.true c.request-item.is c.len-done.ensures
    (stops_of g.R.ResolverSet g.P.Turns c.args.self.now c.request-item.result
    (seen c.loop-request.resolvers c.loop-request.turns) (seen c.execute.new.resolvers c.execute.new.turns)
    c.in-Err.want.roots c.in-Err.ensures.world c.in-Err.ensures.stopped c.execute.ensures.idle)
