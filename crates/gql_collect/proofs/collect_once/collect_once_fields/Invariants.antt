use Rattle.gql_collect.proofs.collect_once.collect_once_fields.Given as goal

abbrev pub ghosts-fields_on_blank : goal.ghosts-fields_on_blank
ghosts-fields_on_blank a = record { name = a.blank.name; parts = a.blank.parts }
