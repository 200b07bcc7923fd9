use Rattle.gql_bench.specs.contracts.list_turns.ListTurnsTurns.TheImpl.{ghosts}
use Rattle.gql_tasks.specs.Progress.{seen}
use Rattle.gql_exec.proofs.BatchLemmas.{one_of}
use Rattle.gql_cli.proofs.answer.response_over.Goals as goal

pub returns-in-Ok : goal.returns-in-Ok
returns-in-Ok g c =
    one_of g.S.ResolverSet ghosts c.args.schema.now c.args.request.now c.in-Ok.response
    (seen c.args.set.now c.args.turns.now) (seen c.execute.new.resolvers c.execute.new.turns)
    c.in-Ok.ensures.response c.in-Ok.ensures.world c.in-Ok.ensures.refused c.execute.ensures.untouched c.in-Ok.ensures.«record» c.execute.ensures.keeps c.execute.ensures.idle
