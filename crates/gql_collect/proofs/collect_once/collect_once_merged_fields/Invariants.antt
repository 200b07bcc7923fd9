use Rattle.gql_collect.proofs.collect_once.collect_once_merged_fields.Given as goal

abbrev pub ghosts-merged_on_blank : goal.ghosts-merged_on_blank
ghosts-merged_on_blank a = record { name = a.blank.name; parts = a.blank.parts }
