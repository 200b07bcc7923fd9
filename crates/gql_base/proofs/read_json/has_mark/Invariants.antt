use Rattle.std.proofs.Common.{◌≡◌}
use Rattle.serde_json.specs.View.{members_view}
use Rattle.gql_base.specs.ReadJson.{has_mark}
use Rattle.gql_base.proofs.read_json.has_mark.Given as goal

abbrev pub invariant-loop-name : goal.invariant-loop-name
invariant-loop-name l = has_mark (members_view l.members.entries) ≡ has_mark (members_view l.name-iterator)
