use Rattle.gql_tasks_tests.proofs.tests.hooks_are_told_of_each_task_once.Given as goal

abbrev pub ghosts-pair : goal.ghosts-pair
ghosts-pair g a = record { name = a.blank.name; parts = a.blank.parts }
