use denote.Exit.{yes}
use denote.Param.Send.{param_send, param_sync, arg_send, arg_sync, sendable}
use Rattle.gql_engine.proofs.SendLemmas.{scene_send, scene_sync}
use Rattle.gql_engine.proofs.shared.of_scene.Goals as goal

pub shared-requires-send-T : goal.shared-requires-send-T
shared-requires-send-T c κs = param_send _ _ (arg_send _ yes _ (scene_send _ _ (search (sendable) depth 5)))

pub shared-requires-sync-T : goal.shared-requires-sync-T
shared-requires-sync-T c κs = param_sync _ _ (arg_sync _ yes _ (scene_sync _ _ (search (sendable) depth 5)))
