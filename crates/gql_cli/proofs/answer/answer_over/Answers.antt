use Rattle.gql_cli.proofs.answer.answer_over.Goals as goal

pub returns : goal.returns
returns g c = record {
  schema = c.in-Ok.schema;
  is = rw c.in-Ok.is at c.in_ok-schema.ensures.finished;
  alike = c.in_ok-response.ensures.alike;
  executed = c.in_ok-response.ensures.executed;
}
