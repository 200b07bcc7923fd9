use Rattle.std.proofs.Common.{[], ◌∷◌, ◌++◌, map, refl, ◌∙◌}
use Rattle.std.specs.Vec.Iter.{into_iter_items}
use Rattle.gql_objects.specs.Parents.{spot_found}
use Rattle.gql_objects.specs.Paths.{path_of}
use Rattle.gql_objects.specs.declared.step.Step.TheVariants as step
use Rattle.gql_objects.proofs.FoundLemmas.{bare_more, found_more, steps_kept}
use Rattle.gql_objects.proofs.find_objects.+store.Goals as goal

pub store_items-loop-item-preserved : goal.store_items-loop-item-preserved
store_items-loop-item-preserved g t c =
    let its = into_iter_items c.loop-item.item-iterator in
    let rest = into_iter_items c.next.new.self in
    let here = c.in-Some.ensures.steps.0 in
    let left_is = c.in_ok-push-2.ensures.ok in
    record {
      bare = bare_more g.row.V.Denot c.loop-item.left c.push-in-loop-item.new.self _ its rest c.in-Some.item c.in_ok-stored.stored here
          left_is
          c.in_ok-stored.ensures.bare c.loop-item.invariant.bare;
      path = steps_kept c.loop-item.path.items c.push.new.self.items c.store.new.path.items c.truncate.new.self.items _ c.len-depth.result
          c.in_ok-push.ensures.items c.in_ok-stored.ensures.path (c.len-depth.ensures ∙ c.loop-item.path.ok.0) c.truncate.ensures.items
          ∙ c.loop-item.invariant.path;
      found = found_more g.row.V.Denot (map spot_found c.loop-item.found.items) (map spot_found c.store.new.found.items) _ its rest
          c.in-Some.item
          c.loop-item.left c.push-in-loop-item.new.self c.in_ok-stored.stored c.args.path.now.items c.push.new.self.items
          (path_of c.push.new.self.items)
          here left_is
          (c.in_ok-push.ensures.items ∙ (λ i. c.loop-item.invariant.path i ++ step.Index (c.len-in-loop-item.ensures i) ∷ []))
          refl c.in_ok-stored.ensures.found c.loop-item.invariant.found;
    }
