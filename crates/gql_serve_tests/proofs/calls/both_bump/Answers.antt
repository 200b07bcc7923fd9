use denote.Exit.{no}
use denote.Param.{param}
use denote.Param.Send.{param_sync, arg_sync}
use Rattle.gql_serve_tests.proofs.SendLemmas.{cell_service_sync}
use Rattle.gql_serve_tests.proofs.calls.both_bump.Goals as goal

pub on_two-one-requires-sync-S : goal.on_two-one-requires-sync-S
on_two-one-requires-sync-S g c κs within = param_sync _ _ (arg_sync _ no _ (cell_service_sync (param 0 g.row.L) g.L.Roll g.L.Ledger))
