use Rattle.gql_exec.proofs.schema.Schema.execute_apart.Given as goal

abbrev pub ghosts-execute_on : goal.ghosts-execute_on
ghosts-execute_on g a = record { name = a.blank.name; parts = a.blank.parts }
