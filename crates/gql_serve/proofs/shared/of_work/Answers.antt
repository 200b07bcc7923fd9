use denote.Exit.{no}
use denote.Param.{param}
use denote.Param.Send.{param_send, arg_send}
use Rattle.gql_serve.proofs.SendLemmas.{work_send}
use Rattle.gql_serve.proofs.shared.of_work.Goals as goal

pub moved-requires-send-T : goal.moved-requires-send-T
moved-requires-send-T g c κs within = param_send _ _ (arg_send _ no _
    (work_send (param 0 g.row.R) (param 1 g.row.P) (param 2 g.row.R-Own) (param 3 g.row.R-World) (param 4 g.row.R-Future)
    c.type_bounds.send-R c.type_bounds.send-P c.type_bounds.send-R-Own c.type_bounds.send-R-World c.type_bounds.send-R-Future))
