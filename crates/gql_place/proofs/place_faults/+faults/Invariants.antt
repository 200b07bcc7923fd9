use Rattle.std.proofs.Common.{◌≡◌, ◌++◌, take}
use Rattle.gql_place.specs.Faults.{member_faults, item_faults}
use Rattle.gql_place.specs.Steps.{path_of}
use Rattle.gql_place.proofs.place_faults.+faults.Given as goal

abbrev pub invariant-push_members-loop-index : goal.invariant-push_members-loop-index
invariant-push_members-loop-index l =
    (l.errors ≡ l.initial.errors ++ member_faults (take l.index l.members) (path_of l.initial.path)) × (path_of l.path ≡ path_of l.initial.path)

abbrev pub invariant-push_items-loop-index : goal.invariant-push_items-loop-index
invariant-push_items-loop-index l =
    (l.errors ≡ l.initial.errors ++ item_faults (take l.index l.items) (path_of l.initial.path)) × (path_of l.path ≡ path_of l.initial.path)
