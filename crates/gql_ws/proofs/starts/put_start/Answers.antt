use Rattle.std.proofs.Common.{◌≡◌, ◌<◌, length, arith, sym, ap, ◌∙◌}
use Rattle.gql_ws.specs.Found.{has_id, place_in}
use Rattle.gql_ws.proofs.FoundLemmas.{placed_some}
use Rattle.gql_ws.proofs.starts.put_start.Goals as goal

pub index_mut-requires : goal.index_mut-requires
index_mut-requires c =
    let live = c.args.list.now in
    let is : c.place_of_id-place.result ≡ place_in (has_id c.args.id) live.items =
    c.place_of_id-place.ensures ∙ ap (place_in (has_id c.args.id)) c.as_slice.ensures.value in
    let within : place_in (has_id c.args.id) live.items < length live.items =
    (placed_some c.args.id c.args.number c.in-Some.old live.items (sym c.in-Some.is ∙ c.requires.old)).0 in
    omega (arith, live.ok.0)
