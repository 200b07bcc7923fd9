use Rattle.std.proofs.Common.{◌≡◌, map}
use Rattle.serde_json.specs.View.{members_view}
use Rattle.gql_form.specs.Read.{first_other}
use Rattle.gql_form.proofs.kit.read_only.Given as goal

abbrev pub invariant-loop-name : goal.invariant-loop-name
invariant-loop-name l =
    first_other (map (λ n. n.now) l.names) (members_view l.members.entries)
    ≡ first_other (map (λ n. n.now) l.names) (members_view l.name-iterator)
