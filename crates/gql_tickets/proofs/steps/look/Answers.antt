use Rattle.std.proofs.Common.{arith}
use Rattle.gql_tickets.specs.Journals.{IsAt}
use Rattle.gql_tickets.proofs.StepLemmas.{look_moves}
use Rattle.gql_tickets.proofs.steps.look.Goals as goal

pub load-requires : goal.load-requires
load-requires g c =
    let words = c.requires.words in let board = c.args.board.now.shared in let place = c.args.place.now in (
      c.requires.seat,
      omega arith,
      look_moves g.A.Journaled.caller
          (IsAt g.A.Journaled) board.key.first.value board.key.seats board.table_id.slots place.id place.me.0 place.me.1 c.requires.one.0
          c.requires.one.1 c.requires.waits c.requires.empty,
    )
