-- Threads may use a service over a cell at once.
use denote.Param.Send.{IsSync, sendable}
use denote.RattleType.{RattleType}
use denote.Struct.Field.{u64-field}
use Rattle.std.specs.declared.sync.ledger.Ledger.{Ghosts as Ledgers}
use Rattle.gql_serve.proofs.SendLemmas.{served_sync}
use Rattle.gql_serve.specs.contracts.served.Served as served
use Rattle.gql_serve.specs.declared.roll.Roll.{Ghosts as Rolls}
use Rattle.gql_serve_tests.specs.contracts.cells.Cells as cells
use Rattle.gql_serve_tests.specs.contracts.cells.CellsResolverSet.TheImpl as resolving
use Rattle.gql_serve_tests.specs.contracts.cells.Reader as reader

pub cell_service_sync : (L : RattleType) (roll : Rolls L.Denot cells.the_row.Denot) (ledger : Ledgers L.Denot)
    → IsSync (served.the_row cells.the_row L u64-field.row u64-field.row reader.the_row resolving.ghosts roll ledger)
cell_service_sync L roll ledger = served_sync cells.the_row L u64-field.row u64-field.row reader.the_row resolving.ghosts roll ledger
    (search (sendable) depth 5) (search (sendable) depth 5) (search (sendable) depth 5) (search (sendable) depth 5)
