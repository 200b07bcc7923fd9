use Rattle.std.specs.Prelude.{Some}
use Rattle.gql_serve_tests.proofs.close_tests.one_seat_is_too_few.Given as goal

abbrev pub ghosts-closed_after_a_call-L-Ledger : goal.ghosts-closed_after_a_call-L-Ledger
ghosts-closed_after_a_call-L-Ledger g a = record { name = a.blank.name; parts = a.blank.parts }

abbrev pub ghosts-closed_after_a_call-L-Roll : goal.ghosts-closed_after_a_call-L-Roll
ghosts-closed_after_a_call-L-Roll g a = record { all = a.blank.parts; begins = Some a.set }
