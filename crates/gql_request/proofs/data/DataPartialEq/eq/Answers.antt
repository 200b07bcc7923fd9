use Rattle.gql_base.specs.Same.{is_same_is}
use Rattle.gql_request.specs.contracts.data.Data.{the_row}
use Rattle.gql_request.proofs.data.DataPartialEq.eq.Goals as goal

pub returns : goal.returns
returns c = is_same_is the_row.coded c.equals.result c.args.self.now c.args.other.now c.equals.ensures
