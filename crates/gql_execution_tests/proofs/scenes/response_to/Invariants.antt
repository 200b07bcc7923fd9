use Rattle.gql_execution_tests.proofs.scenes.response_to.Given as goal

abbrev pub ghosts-response_in_turn : goal.ghosts-response_in_turn
ghosts-response_in_turn g a = record { name = a.blank.name; parts = a.blank.parts }

abbrev pub ghosts-response_at_once : goal.ghosts-response_at_once
ghosts-response_at_once g a = record { name = a.blank.name; parts = a.blank.parts }
