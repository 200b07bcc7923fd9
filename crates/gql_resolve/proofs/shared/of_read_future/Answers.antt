use denote.Exit.{no}
use denote.Param.{param}
use denote.Param.Send.{param_sync, arg_sync}
use Rattle.gql_resolve.proofs.SendLemmas.{future_sync}
use Rattle.gql_resolve.proofs.shared.of_read_future.Goals as goal

pub read-requires-sync-T : goal.read-requires-sync-T
read-requires-sync-T g c κs within = param_sync _ _ (arg_sync _ no _ (future_sync (param 0 g.row.V) (param 1 g.row.F) c.type_bounds.sync-V c.type_bounds.sync-F))
