use Rattle.gql_admit.proofs.directives.check_directives.Given as goal

abbrev pub ghosts-check_on_blank : goal.ghosts-check_on_blank
ghosts-check_on_blank a = record { name = a.blank.name; parts = a.blank.parts }
