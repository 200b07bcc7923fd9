use Rattle.gql_complete.proofs.ListingLemmas.{name_here, name_inside}
use Rattle.gql_complete.proofs.object_lists.+is_named.Goals as goal

pub returns-in-Named : goal.returns-in-Named
returns-in-Named t c = λ yes. name_here _ _ c.in-Named.is

pub returns-in-NonNull : goal.returns-in-NonNull
returns-in-NonNull t c = λ yes. name_inside _ _ _ c.in-NonNull.is c.get.ensures (c.is_named.ensures yes)
