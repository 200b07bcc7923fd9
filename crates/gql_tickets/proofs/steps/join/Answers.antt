use Rattle.std.proofs.Common.{arith}
use Rattle.gql_tickets.specs.Journals.{IsAt}
use Rattle.gql_tickets.proofs.CutLemmas.{join_moves}
use Rattle.gql_tickets.proofs.steps.join.Goals as goal

pub join_seat-requires : goal.join_seat-requires
join_seat-requires g c =
    let words = c.requires.words in let board = c.args.board.now.shared in let place = c.args.place.now in
    let quiet = c.requires.quiet in (
      c.requires.seat.0,
      c.requires.seat.1,
      quiet.2,
      omega arith,
      join_moves g.A.Journaled.caller
          (IsAt g.A.Journaled) board.key.first.value board.key.seats place.id place.me.0 c.args.other.id c.args.other.me.0 quiet.0 quiet.1,
    )
