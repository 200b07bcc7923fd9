use Rattle.gql_execution_tests.proofs.counted_tests.counted.Given as goal

abbrev pub ghosts-counted_on_blank : goal.ghosts-counted_on_blank
ghosts-counted_on_blank a = record { name = a.blank.name; parts = a.blank.parts }
