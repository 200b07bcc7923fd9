use denote.Exit.{yes}
use denote.Param.Send.{param_send, param_sync, arg_send, arg_sync}
use Rattle.gql_schema_tests.proofs.SchemaSendLemmas.{declared_send, declared_sync}
use Rattle.gql_schema_tests.proofs.schema_shared.of_declared_field.Goals as goal

pub shared-requires-send-T : goal.shared-requires-send-T
shared-requires-send-T c κs = param_send _ _ (arg_send _ yes _ (declared_send _))

pub shared-requires-sync-T : goal.shared-requires-sync-T
shared-requires-sync-T c κs = param_sync _ _ (arg_sync _ yes _ (declared_sync _))
