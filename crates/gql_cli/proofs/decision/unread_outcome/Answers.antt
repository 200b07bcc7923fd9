use Rattle.gql_cli.proofs.LoadLemmas.{load_due, usage_due}
use Rattle.gql_cli.proofs.decision.unread_outcome.Goals as goal

pub returns-in-Some : goal.returns-in-Some
returns-in-Some g c = load_due _ _ c.in-Some.rows (rw c.in-Some.is at c.load_of.ensures) c.load_outcome.result c.load_outcome.ensures

pub returns-in-None : goal.returns-in-None
returns-in-None g c = usage_due _ c.requires (rw c.in-None.is at c.load_of.ensures)
