use Rattle.gql_resolve.proofs.OpenLemmas.{look_enters, look_gives, look_leaves, look_passes}
use Rattle.gql_resolve.proofs.selection_fields_iter.SelectionFieldsIter.advance.Goals as goal

pub returns-in-Done : goal.returns-in-Done
returns-in-Done c =
    look_leaves c.args.self.now.sets c.len-place.result c.as_slice.result.now c.index-as_slice-place.result c.requires c.len-place.ensures c.as_slice.ensures c.index-as_slice-place.is
    c.pop.new.self c.pop.result c.in-Done.ensures c.pop.ensures

pub returns-in-Gives : goal.returns-in-Gives
returns-in-Gives c =
    look_gives c.args.self.now.sets c.len-place.result c.as_slice.result.now c.index-as_slice-place.result c.requires c.len-place.ensures c.as_slice.ensures c.index-as_slice-place.is
    c.in-Gives.field c.in-Gives.rest c.set.new.self c.in-Gives.ensures c.set.ensures

pub returns-in_ok-push-in-Enters : goal.returns-in_ok-push-in-Enters
returns-in_ok-push-in-Enters c =
    look_enters c.args.self.now.sets c.len-place.result c.as_slice.result.now c.index-as_slice-place.result c.requires c.len-place.ensures c.as_slice.ensures c.index-as_slice-place.is
    c.in-Enters.inner c.in-Enters.rest c.push.new.self c.set-in-Enters.new.self c.in-Enters.ensures c.in_ok-push-in-Enters.ensures.ok c.set-in-Enters.ensures

pub returns-in-Passes : goal.returns-in-Passes
returns-in-Passes c =
    look_passes c.args.self.now.sets c.len-place.result c.as_slice.result.now c.index-as_slice-place.result c.requires c.len-place.ensures c.as_slice.ensures c.index-as_slice-place.is
    c.in-Passes.rest c.set-in-Passes.new.self c.in-Passes.ensures c.set-in-Passes.ensures
