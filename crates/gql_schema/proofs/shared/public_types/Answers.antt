use denote.Exit.{yes}
use denote.Param.Send.{param_send, param_sync, arg_send, arg_sync}
use Rattle.gql_schema.proofs.SendLemmas.{field_send, field_sync}
use Rattle.gql_schema.proofs.by_name.ByName.TheSendSync as by_name
use Rattle.gql_schema.proofs.shared.public_types.Goals as goal

pub shared-requires-send-T : goal.shared-requires-send-T
shared-requires-send-T c κs = param_send _ _ (arg_send _ yes _ (by_name.the_send _ _ field_send))

pub shared-requires-sync-T : goal.shared-requires-sync-T
shared-requires-sync-T c κs = param_sync _ _ (arg_sync _ yes _ (by_name.the_sync _ _ field_sync))

pub shared-requires-3-send-T : goal.shared-requires-3-send-T
shared-requires-3-send-T c κs = param_send _ _ (arg_send _ yes _ field_send)

pub shared-requires-3-sync-T : goal.shared-requires-3-sync-T
shared-requires-3-sync-T c κs = param_sync _ _ (arg_sync _ yes _ field_sync)
