use Rattle.std.proofs.lemmas.Slice.Eq.{slice_eq-Decides}
use Rattle.gql_base.specs.Same.{is_same-decides}
use Rattle.gql_base.specs.contracts.value.Value.{the_row}
use Rattle.gql_request.proofs.data.same_values.Goals as goal

pub returns : goal.returns
returns c = slice_eq-Decides (is_same-decides the_row.coded) c.args.a.now c.args.b.now c.eq.result c.eq.ensures
