use denote.Exit.{no}
use denote.Param.{param}
use denote.Param.Send.{param_sync, arg_sync}
use Rattle.gql_resolve.proofs.SendLemmas.{field_value_sync}
use Rattle.gql_resolve.proofs.shared.of_read_value.Goals as goal

pub read-requires-sync-T : goal.read-requires-sync-T
read-requires-sync-T g c κs within = param_sync _ _ (arg_sync _ no _ (field_value_sync (param 0 g.row.V) c.type_bounds.sync-V))
