use Rattle.gql_base.specs.Same.{is_same_is}
use Rattle.gql_base.specs.contracts.server_error.ServerError.{the_row}
use Rattle.gql_base.proofs.server_error.ServerErrorPartialEq.eq.Goals as goal

pub returns-clause-value : goal.returns-clause-value
returns-clause-value c = is_same_is the_row.coded c.same_server_error.result c.args.self.now c.args.other.now c.same_server_error.ensures
