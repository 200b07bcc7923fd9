use Rattle.std.proofs.Common.{◌≡◌, drop}
use Rattle.gql_resolve.specs.Variables.{unknown_items, unknown_members}
use Rattle.gql_resolve.proofs.variables.+unknown.Given as goal

abbrev pub invariant-unknown_in_items-loop-item : goal.invariant-unknown_in_items-loop-item
invariant-unknown_in_items-loop-item l = unknown_items l.env (drop l.item-index l.items) ≡ unknown_items l.env l.items

abbrev pub invariant-unknown_in_members-loop-index : goal.invariant-unknown_in_members-loop-index
invariant-unknown_in_members-loop-index l = unknown_members l.env (drop l.index l.members) ≡ unknown_members l.env l.members
