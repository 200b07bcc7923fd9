-- What an execution is for may go to other threads, and threads may read it at once, where the resolvers' own values may be read.
use denote.Param.Send.{IsSend, IsSync, sendable}
use denote.RattleType.{RattleType}
use denote.Ref.{NamedLft}
use Rattle.gql_engine.specs.contracts.scene.Scene as scene
use Rattle.gql_request.proofs.SendLemmas.{query_env_sync}
use Rattle.gql_resolve.proofs.SendLemmas.{field_value_sync, layers_field_send, layers_field_sync}
use Rattle.gql_schema.proofs.SendLemmas.{object_sync, types_sync}

pub scene_send : (a : NamedLft) (V : RattleType) → IsSync V → IsSend (scene.the_row a V)
scene_send a V p = search (
  layers_field_send,
  field_value_sync,
  object_sync,
  types_sync,
  query_env_sync,
  sendable,
) depth 12

pub scene_sync : (a : NamedLft) (V : RattleType) → IsSync V → IsSync (scene.the_row a V)
scene_sync a V p = search (
  layers_field_sync,
  field_value_sync,
  object_sync,
  types_sync,
  query_env_sync,
  sendable,
) depth 12
