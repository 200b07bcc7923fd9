use Rattle.gql_rules.proofs.field_merging.tell_nested.Goals as goal

pub conflicts_in_nested-requires : goal.conflicts_in_nested-requires
conflicts_in_nested-requires c = c.requires.none
