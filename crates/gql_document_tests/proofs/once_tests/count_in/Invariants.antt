use Rattle.gql_document_tests.proofs.once_tests.count_in.Given as goal

abbrev pub ghosts-count_on_blank : goal.ghosts-count_on_blank
ghosts-count_on_blank a = record { name = a.blank.name; parts = a.blank.parts }
