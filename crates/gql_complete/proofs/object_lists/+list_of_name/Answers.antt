use Rattle.gql_complete.proofs.ListingLemmas.{names_here, names_inside}
use Rattle.gql_complete.proofs.object_lists.+list_of_name.Goals as goal

pub returns-in-NonNull : goal.returns-in-NonNull
returns-in-NonNull t c = names_inside c.list_of_name.result _ _ _ c.in-NonNull.is c.get.ensures c.list_of_name.ensures

pub returns-in-List : goal.returns-in-List
returns-in-List t c = names_here c.items_of_name.result _ _ _ c.in-List.is c.get-in-List.ensures c.items_of_name.ensures
