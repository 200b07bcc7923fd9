use Rattle.std.specs.Prelude.{Some}
use Rattle.gql_serve_tests.proofs.service_tests.the_journal_has_what_the_seats_counted.Given as goal

abbrev pub ghosts-counts-L-Ledger : goal.ghosts-counts-L-Ledger
ghosts-counts-L-Ledger g a = record { name = a.blank.name; parts = a.blank.parts }

abbrev pub ghosts-counts-L-Roll : goal.ghosts-counts-L-Roll
ghosts-counts-L-Roll g a = record { all = a.blank.parts; begins = Some a.set }
