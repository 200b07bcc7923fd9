use Rattle.std.proofs.Common.{◌≡◌, take, map}
use Rattle.gql_base.specs.Pairs.{values_of}
use Rattle.gql_select.specs.Constants.{resolved}
use Rattle.gql_resolve.specs.Variables.{resolved_members}
use Rattle.gql_resolve.specs.Variables.{known_in}
use Rattle.gql_resolve.proofs.variables.+resolve.Given as goal

abbrev pub invariant-resolve_items-loop-item : goal.invariant-resolve_items-loop-item
invariant-resolve_items-loop-item l = l.values ≡ map (resolved (known_in l.env)) (take l.item-index l.items)

abbrev pub invariant-resolve_members-loop-index : goal.invariant-resolve_members-loop-index
invariant-resolve_members-loop-index l = l.values.items ≡ values_of (resolved_members (known_in l.env) (take l.index l.members))
