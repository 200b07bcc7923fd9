use Rattle.gql_engine.proofs.apart.run_apart.Given as goal

abbrev pub ghosts-run_on_blank : goal.ghosts-run_on_blank
ghosts-run_on_blank g a = record { name = a.blank.name; parts = a.blank.parts }
