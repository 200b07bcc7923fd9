use Rattle.gql_tasks_tests.proofs.tests.a_task_may_wait_for_another.Given as goal

abbrev pub ghosts-pair : goal.ghosts-pair
ghosts-pair g a = record { name = a.blank.name; parts = a.blank.parts }
