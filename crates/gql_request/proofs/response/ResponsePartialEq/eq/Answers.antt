use Rattle.gql_base.specs.Same.{is_same_is}
use Rattle.gql_request.specs.contracts.response.Response.{the_row}
use Rattle.gql_request.proofs.response.ResponsePartialEq.eq.Goals as goal

pub returns-clause-value : goal.returns-clause-value
returns-clause-value c = is_same_is the_row.coded c.same_response.result c.args.self.now c.args.other.now c.same_response.ensures
