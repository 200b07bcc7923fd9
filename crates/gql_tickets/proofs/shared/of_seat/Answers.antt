use denote.Exit.{no}
use denote.Param.{param}
use denote.Param.Send.{param_send, arg_send}
use Rattle.gql_tickets.proofs.SendLemmas.{seat_send}
use Rattle.gql_tickets.proofs.shared.of_seat.Goals as goal

pub moved-requires-send-T : goal.moved-requires-send-T
moved-requires-send-T g c κs within =
    param_send _ _ (arg_send _ no _ (seat_send (param 0 g.row.A) (param 1 g.row.E) c.type_bounds.send-A))
