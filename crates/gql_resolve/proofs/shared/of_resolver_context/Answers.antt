use denote.Exit.{no}
use denote.Param.{param}
use denote.Param.Send.{param_send, param_sync, arg_send, arg_sync}
use Rattle.gql_resolve.proofs.SendLemmas.{context_send, context_sync}
use Rattle.gql_resolve.proofs.shared.of_resolver_context.Goals as goal

pub shared-requires-send-T : goal.shared-requires-send-T
shared-requires-send-T g c κs within = param_send _ _ (arg_send _ no _ (context_send _ (param 0 g.row.V) c.type_bounds.sync-V))

pub shared-requires-sync-T : goal.shared-requires-sync-T
shared-requires-sync-T g c κs within = param_sync _ _ (arg_sync _ no _ (context_sync _ (param 0 g.row.V) c.type_bounds.sync-V))
