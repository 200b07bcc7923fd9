use Rattle.gql_base.specs.Same.{is_same, is_same-decides}
use Rattle.gql_base.specs.contracts.error_extension_values.ErrorExtensionValues.{the_row}
use Rattle.gql_base.proofs.SameLemmas.{told, some-decides}
use Rattle.gql_base.proofs.server_error.same_extensions.Goals as goal

pub returns-in-Some-Some : goal.returns-in-Some-Some
returns-in-Some-Some c =
    some-decides c.eq.result c.in-Some-Some.x c.in-Some-Some.y c.args.a.now c.args.b.now
    (told c.eq.result (is_same the_row.coded c.in-Some-Some.x c.in-Some-Some.y) c.in-Some-Some.x c.in-Some-Some.y c.eq.ensures
    (is_same-decides the_row.coded c.in-Some-Some.x c.in-Some-Some.y))
    c.in-Some-Some.is-0 c.in-Some-Some.is-1
