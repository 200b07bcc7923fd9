use Rattle.std.proofs.Common.{◌≡◌, take}
use Rattle.gql_resolve.proofs.copied.+copy.Given as goal

abbrev pub invariant-copy_list-loop-item : goal.invariant-copy_list-loop-item
invariant-copy_list-loop-item g l = l.copies ≡ take l.item-index l.items
