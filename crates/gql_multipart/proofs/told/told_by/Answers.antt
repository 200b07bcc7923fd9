use Rattle.std.proofs.Common.{◌<◌, length, subst, sym, arith}
use Rattle.std.proofs.lemmas.Grind.{common_steps}
use Rattle.std.specs.Option.{option_map}
use Rattle.gql_multipart.proofs.TellingLemmas.{IsGoing, going_more}
use Rattle.gql_multipart.specs.Parameter.{parameters_in}
use Rattle.gql_multipart.specs.Read.{given}
use Rattle.gql_multipart.specs.Told.{told_of}
use Rattle.gql_multipart.proofs.told.told_by.Goals as goal

pub loop-rest-preserved : goal.loop-rest-preserved
loop-rest-preserved c =
    let whole = option_map told_of (parameters_in (length c.args.text.now) c.args.text.now) in
    let some : 0 < length c.loop-rest.rest.now = grind (arith, common_steps) in
    subst (λ t. IsGoing t c.in_ok-parameter.parameter.rest.now whole) (sym c.and-told.ensures)
    (going_more c.loop-rest.told c.loop-rest.rest.now c.in_ok-parameter.parameter.rest.now
    (given c.in_ok-parameter.parameter) whole some c.in_ok-parameter.ensures.within
    c.in_ok-parameter.ensures.value c.loop-rest.invariant)
