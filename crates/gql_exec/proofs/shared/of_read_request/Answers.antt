use denote.Exit.{no}
use denote.Param.{param}
use denote.Param.Send.{param_sync, arg_sync}
use Rattle.gql_exec.proofs.SendLemmas.{dynamic_request_sync}
use Rattle.gql_exec.proofs.shared.of_read_request.Goals as goal

pub read-requires-sync-T : goal.read-requires-sync-T
read-requires-sync-T g c κs within = param_sync _ _ (arg_sync _ no _ (dynamic_request_sync (param 0 g.row.V) c.type_bounds.sync-V))
