use Rattle.std.proofs.KnownBytes.{Keeps-refl}
use Rattle.gql_cli.proofs.RunLemmas.{ended, wanting}
use Rattle.gql_cli.proofs.program.run_alone.Goals as goal

pub returns-in-Ok : goal.returns-in-Ok
returns-in-Ok g c =
    rw c.code.ensures
    (ended g.I.Source g.O.Sink _ _ _ _ _ record {
      due = c.in-Ok.due;
      is = c.in-Ok.ensures.due;
      untouched = c.decide.ensures.unread;
      whole = c.deliver.ensures.whole;
      start = c.deliver.ensures.start;
      cause = c.deliver.ensures.cause;
    })

pub returns-in-Err : goal.returns-in-Err
returns-in-Err g c =
    wanting g.I.Source g.O.Sink _ _ _ _ c.code-in-Err.result c.code-in-Err.ensures c.decide.ensures.unread (Keeps-refl _)
