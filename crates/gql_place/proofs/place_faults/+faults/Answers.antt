use Rattle.std.proofs.Common.{length, refl}
use Rattle.std.proofs.lemmas.Option.{slice_get_read}
use Rattle.gql_place.specs.Steps.{path_of}
use Rattle.gql_place.proofs.PartLemmas.{item_preserved, member_preserved}
use Rattle.gql_place.proofs.place_faults.+faults.Goals as goal

pub push_members-loop-index-preserved : goal.push_members-loop-index-preserved
push_members-loop-index-preserved t c =
    member_preserved c.args.members.now c.loop-index.index _ (path_of c.args.path.now) c.loop-index.path c.push.new.self c.push_place.new.path c.pop.new.self _
    c.args.errors.now c.loop-index.errors c.push_place.new.errors c.pop.result c.pair_at.ensures c.loop-index.invariant refl
    c.in_ok-push.ensures.ok c.in_ok-push_place.ensures.found c.in_ok-push_place.ensures.path c.pop.ensures

pub push_items-loop-index-preserved : goal.push_items-loop-index-preserved
push_items-loop-index-preserved t c =
    item_preserved c.args.items.now c.loop-index.index c.index-items-index.result (path_of c.args.path.now) c.loop-index.path c.push.new.self
    c.push_place.new.path c.pop.new.self _ c.args.errors.now c.loop-index.errors c.push_place.new.errors c.pop.result
    (slice_get_read c.args.items.now (length c.args.items.now) c.loop-index.index c.index-items-index.result refl c.loop-index-test.true c.index-items-index.is)
    c.loop-index-test.true c.loop-index.invariant refl c.in_ok-push.ensures.ok c.in_ok-push_place.ensures.found c.in_ok-push_place.ensures.path c.pop.ensures
