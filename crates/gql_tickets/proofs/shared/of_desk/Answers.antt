use denote.Exit.{no}
use denote.Param.{param}
use denote.Param.Send.{param_send, param_sync, arg_send, arg_sync}
use Rattle.gql_tickets.proofs.SendLemmas.{desk_send, desk_sync}
use Rattle.gql_tickets.proofs.shared.of_desk.Goals as goal

pub both-requires-send-T : goal.both-requires-send-T
both-requires-send-T g c κs within = param_send _ _ (arg_send _ no _
    (desk_send (param 0 g.row.A) (param 1 g.row.E) c.type_bounds.send-A g.A.Journaled))

pub both-requires-sync-T : goal.both-requires-sync-T
both-requires-sync-T g c κs within = param_sync _ _ (arg_sync _ no _
    (desk_sync (param 0 g.row.A) (param 1 g.row.E) c.type_bounds.send-A g.A.Journaled))
