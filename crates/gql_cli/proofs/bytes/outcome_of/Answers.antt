use Rattle.std.proofs.Common.{ap, sym, ◌∙◌}
use Rattle.serde_json.specs.View.{view}
use Rattle.gql_cli.proofs.GivesLemmas.{json_gives}
use Rattle.gql_cli.specs.Gives.{json_of}
use Rattle.gql_cli.proofs.bytes.outcome_of.Goals as goal

pub returns-in-Some : goal.returns-in-Some
returns-in-Some g c =
    json_gives c.args.command c.args.bytes (view c.in-Some.json) _
    (ap json_of (sym c.as_slice.ensures) ∙ sym (rw c.in-Some.is at c.in_ok-json.ensures)) c.json_outcome.result c.json_outcome.ensures
