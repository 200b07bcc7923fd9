use Rattle.std.proofs.Common.{arith}
use Rattle.gql_tickets.specs.Journals.{IsAt}
use Rattle.gql_tickets.proofs.StepLemmas.{pass_moves}
use Rattle.gql_tickets.proofs.steps.pass.Goals as goal

pub fetch_add-requires : goal.fetch_add-requires
fetch_add-requires g c =
    let words = c.requires.words in let board = c.args.board.now.shared in let place = c.args.place.now in
    let kept = c.requires.kept in (
      c.requires.seat,
      omega arith,
      pass_moves g.A.Journaled.caller
          (IsAt g.A.Journaled) board.key.first.value board.key.seats board.table_id.slots place.id place.me.0 place.me.1 kept.0 kept.2
          c.requires.out kept.1 kept.3 kept.4,
    )
