use Rattle.std.proofs.Common.{arith}
use Rattle.gql_tickets.specs.Journals.{IsAt}
use Rattle.gql_tickets.proofs.CutLemmas.{split_moves}
use Rattle.gql_tickets.proofs.steps.split.Goals as goal

pub split_seat-requires : goal.split_seat-requires
split_seat-requires g c =
    let words = c.requires.words in let board = c.args.board.now.shared in let place = c.args.place.now in (
      c.requires.seat,
      omega arith,
      split_moves g.A.Journaled.caller
          (IsAt g.A.Journaled) board.key.first.value board.key.seats place.id place.me.0 c.requires.quiet c.requires.none,
    )
