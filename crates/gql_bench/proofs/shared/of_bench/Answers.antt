use denote.Exit.{yes}
use denote.Param.Send.{param_send, param_sync, arg_send, arg_sync}
use Rattle.gql_bench.proofs.SendLemmas.{bench_send, bench_sync}
use Rattle.gql_bench.proofs.shared.of_bench.Goals as goal

pub shared-requires-send-T : goal.shared-requires-send-T
shared-requires-send-T c κs = param_send _ _ (arg_send _ yes _ bench_send)

pub shared-requires-sync-T : goal.shared-requires-sync-T
shared-requires-sync-T c κs = param_sync _ _ (arg_sync _ yes _ bench_sync)
