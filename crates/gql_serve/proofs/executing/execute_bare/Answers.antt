use Rattle.gql_tasks.specs.Progress.{seen}
use Rattle.gql_exec.proofs.BatchLemmas.{one_of, stops_of}
use Rattle.gql_serve.proofs.executing.execute_bare.Goals as goal

pub returns-in-Ok : goal.returns-in-Ok
returns-in-Ok g c =
    one_of g.R.ResolverSet g.P.Turns c.args.schema.now c.args.request.now c.in-Ok.response
    (seen c.args.resolvers.now c.args.turns.now) (seen c.execute.new.resolvers c.execute.new.turns)
    c.in-Ok.ensures.response c.in-Ok.ensures.world c.in-Ok.ensures.refused
    c.execute.ensures.untouched c.in-Ok.ensures.«record» c.execute.ensures.keeps c.execute.ensures.idle

pub returns-in-Err : goal.returns-in-Err
returns-in-Err g c = (
  stops_of g.R.ResolverSet g.P.Turns c.args.schema.now c.args.request.now
      (seen c.args.resolvers.now c.args.turns.now) (seen c.execute.new.resolvers c.execute.new.turns)
      c.in-Err.want.roots c.in-Err.ensures.world c.in-Err.ensures.stopped c.execute.ensures.idle,
  c.execute.ensures.keeps,
)
