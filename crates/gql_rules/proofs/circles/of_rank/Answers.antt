use Rattle.std.proofs.Common.{arith, get_or}
use Rattle.std.proofs.lemmas.Option.{slice_get-get_or}
use Rattle.std.specs.Prelude.{◌==◌}
use Rattle.gql_lists.proofs.SetLemmas.{among-take}
use Rattle.gql_rules.proofs.ReachLemmas.{same_number}
use Rattle.gql_rules.proofs.circles.of_rank.Goals as goal

pub add_of_rank-requires-clause-among : goal.add_of_rank-requires-clause-among
add_of_rank-requires-clause-among c =
    let places = c.args.places.now in
    let index = c.loop-place.place-index in
    among-take ◌==◌ same_number places index (get_or places index 0) (slice_get-get_or places index 0 (omega arith))
