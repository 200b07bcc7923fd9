use Rattle.std.proofs.Common.{◌≡◌, ◌++◌, take}
use Rattle.std.specs.List.{flat_map}
use Rattle.gql_place.specs.HeaderOps.{ops_of}
use Rattle.gql_place.proofs.place_headers.+headers.Given as goal

abbrev pub invariant-push_members-loop-index : goal.invariant-push_members-loop-index
invariant-push_members-loop-index l = l.ops ≡ l.initial.ops ++ flat_map (λ member. ops_of member.1) (take l.index l.members)

abbrev pub invariant-push_items-loop-item : goal.invariant-push_items-loop-item
invariant-push_items-loop-item l = l.ops ≡ l.initial.ops ++ flat_map ops_of (take l.item-index l.items)
