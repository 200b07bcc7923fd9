use Rattle.std.proofs.Common.{rules, ◌<◌, length, refl}
use Rattle.std.proofs.lemmas.Option.{slice_get_read}
use Rattle.gql_request.proofs.DefinedLemmas.{places_more}
use Rattle.gql_request.proofs.defined.definition_places.Goals as goal

pub loop-place-preserved : goal.loop-place-preserved
loop-place-preserved c =
    let definitions = c.args.definitions.now in
    let place = c.loop-place.place in
    let definition = c.index-definitions-place.result in
    let within : place < length definitions = search rules in
    let at = slice_get_read definitions (length definitions) place definition refl within c.index-definitions-place.is in
    places_more definitions place definition c.loop-place.places c.add_place.new.places at c.loop-place.invariant c.in_ok-add_place.ensures
