use Rattle.std.proofs.Common.{◌≡◌}
use Rattle.serde_json.specs.View.{members_view}
use Rattle.gql_form.specs.Answered.{has_special}
use Rattle.gql_form.proofs.answered.has_special.Given as goal

abbrev pub invariant-loop-name : goal.invariant-loop-name
invariant-loop-name l = has_special (members_view l.members.entries) ≡ has_special (members_view l.name-iterator)
