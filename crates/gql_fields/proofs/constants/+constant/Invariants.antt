use Rattle.std.proofs.Common.{◌≡◌, true, take}
use Rattle.std.specs.List.{list_all}
use Rattle.gql_fields.specs.UsePlaces.{is_constant}
use Rattle.gql_fields.proofs.constants.+constant.Given as goal

abbrev pub invariant-items_are_constant-loop-value : goal.invariant-items_are_constant-loop-value
invariant-items_are_constant-loop-value l = list_all is_constant (take l.value-index l.items) ≡ true

abbrev pub invariant-members_are_constant-loop-at : goal.invariant-members_are_constant-loop-at
invariant-members_are_constant-loop-at l = list_all (λ m. is_constant m.1) (take l.at l.members) ≡ true
