use Rattle.std.proofs.Common.{◌≡◌, drop}
use Rattle.std.specs.List.{zip}
use Rattle.gql_base.specs.Pairs.{unite_all}
use Rattle.gql_place.specs.Join.{join}
use Rattle.gql_objects.specs.Members.{united_members}
use Rattle.gql_objects.proofs.assembly.merge_places.members_joined.Given as goal

abbrev pub invariant-loop-name : goal.invariant-loop-name
invariant-loop-name l = unite_all join l.members (zip (drop l.name-index l.names) l.own.items) ≡ united_members l.names l.initial.own.items
