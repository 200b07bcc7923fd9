use Rattle.gql_base.specs.Same.{is_same_is}
use Rattle.gql_doc.specs.contracts.document.DocValue.{the_row}
use Rattle.gql_select.proofs.alike.is_written_as.Goals as goal

pub returns : goal.returns
returns c = is_same_is the_row.coded c.same_value.result c.args.one.now c.args.other.now c.same_value.ensures
