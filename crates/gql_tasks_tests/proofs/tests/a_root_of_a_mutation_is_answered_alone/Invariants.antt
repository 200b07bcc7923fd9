use Rattle.gql_tasks_tests.proofs.tests.a_root_of_a_mutation_is_answered_alone.Given as goal

abbrev pub ghosts-root : goal.ghosts-root
ghosts-root g a = record { name = a.blank.name; parts = a.blank.parts }
