use Rattle.std.specs.Prelude.{Some}
use Rattle.gql_serve_tests.proofs.service_tests.two_seats_on_two_threads.Given as goal

abbrev pub ghosts-cell_after-L-Ledger : goal.ghosts-cell_after-L-Ledger
ghosts-cell_after-L-Ledger g a = record { name = a.blank.name; parts = a.blank.parts }

abbrev pub ghosts-cell_after-L-Roll : goal.ghosts-cell_after-L-Roll
ghosts-cell_after-L-Roll g a = record { all = a.blank.parts; begins = Some a.set }
