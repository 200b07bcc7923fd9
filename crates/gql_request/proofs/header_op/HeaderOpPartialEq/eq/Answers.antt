use Rattle.gql_base.specs.Same.{is_same_is}
use Rattle.gql_request.specs.contracts.header_op.HeaderOp.{the_row}
use Rattle.gql_request.proofs.header_op.HeaderOpPartialEq.eq.Goals as goal

pub returns-clause-value : goal.returns-clause-value
returns-clause-value c = is_same_is the_row.coded c.same_op.result c.args.self.now c.args.other.now c.same_op.ensures
