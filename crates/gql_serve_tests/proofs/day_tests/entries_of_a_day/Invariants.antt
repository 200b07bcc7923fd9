use Rattle.std.specs.Prelude.{Some}
use Rattle.gql_serve_tests.proofs.day_tests.entries_of_a_day.Given as goal

abbrev pub ghosts-day-L-Ledger : goal.ghosts-day-L-Ledger
ghosts-day-L-Ledger g a = record { name = a.blank.name; parts = a.blank.parts }

abbrev pub ghosts-day-L-Roll : goal.ghosts-day-L-Roll
ghosts-day-L-Roll g a = record { all = a.blank.parts; begins = Some a.set }
