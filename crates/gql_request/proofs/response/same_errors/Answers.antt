use Rattle.std.specs.Cmp.Lexicographic.{pointwise, pointwise_decides}
use Rattle.gql_base.specs.Same.{is_same, is_same-decides}
use Rattle.gql_base.specs.contracts.server_error.ServerError.{the_row}
use Rattle.gql_base.proofs.SameLemmas.{told}
use Rattle.gql_request.proofs.response.same_errors.Goals as goal

pub returns : goal.returns
returns c =
    told c.eq.result (pointwise (is_same the_row.coded) c.args.a.now c.args.b.now) c.args.a.now c.args.b.now c.eq.ensures
    (pointwise_decides (is_same-decides the_row.coded) c.args.a.now c.args.b.now)
