use denote.Exit.{no}
use denote.Param.{param}
use denote.Param.Send.{param_send, param_sync, arg_send, arg_sync}
use Rattle.gql_serve.proofs.SendLemmas.{served_send, served_sync}
use Rattle.gql_serve.proofs.shared.of_served.Goals as goal

pub shared-requires-send-T : goal.shared-requires-send-T
shared-requires-send-T g c κs within = param_send _ _ (arg_send _ no _
    (served_send (param 0 g.row.R) (param 1 g.row.L) (param 2 g.row.R-Own) (param 3 g.row.R-World) (param 4 g.row.R-Future)
    g.R.ResolverSet g.L.Roll g.L.Ledger
    c.type_bounds.send-R c.type_bounds.send-R-Own c.type_bounds.send-R-World c.type_bounds.send-R-Future))

pub shared-requires-sync-T : goal.shared-requires-sync-T
shared-requires-sync-T g c κs within = param_sync _ _ (arg_sync _ no _
    (served_sync (param 0 g.row.R) (param 1 g.row.L) (param 2 g.row.R-Own) (param 3 g.row.R-World) (param 4 g.row.R-Future)
    g.R.ResolverSet g.L.Roll g.L.Ledger
    c.type_bounds.send-R c.type_bounds.send-R-Own c.type_bounds.send-R-World c.type_bounds.send-R-Future))
