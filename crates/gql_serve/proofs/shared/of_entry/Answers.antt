use denote.Exit.{no}
use denote.Param.{param}
use denote.Param.Send.{param_send, arg_send}
use Rattle.gql_serve.proofs.SendLemmas.{entry_send}
use Rattle.gql_serve.proofs.shared.of_entry.Goals as goal

pub moved-requires-send-T : goal.moved-requires-send-T
moved-requires-send-T g c κs within = param_send _ _ (arg_send _ no _ (entry_send (param 0 g.row.V) c.type_bounds.send-V))
