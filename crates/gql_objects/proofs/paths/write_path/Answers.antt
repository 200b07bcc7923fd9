use Rattle.std.proofs.Common.{drop, length, ap}
use Rattle.gql_base.specs.declared.path_segment.PathSegment.TheVariants as segment
use Rattle.gql_objects.specs.Parents.{index_of, steps_before}
use Rattle.gql_objects.proofs.PathLemmas.{key_behind, key_behind_index, key_within, key_within_index}
use Rattle.gql_objects.proofs.paths.write_path.Goals as goal

pub write_last-requires : goal.write_last-requires
write_last-requires g c =
    key_within c.steps_in-steps.result.now (drop (length c.steps_in-steps.result.now) c.args.path.now.items) c.write_steps.new.path.items
    c.in_ok-write_steps.ensures

pub write_step-requires : goal.write_step-requires
write_step-requires g c =
    key_within c.steps_in-steps.result.now (drop (length c.steps_in-steps.result.now) c.args.path.now.items) c.write_steps.new.path.items
    c.in_ok-write_steps.ensures

pub write_last-requires-in-Some : goal.write_last-requires-in-Some
write_last-requires-in-Some g c =
    key_within_index c.steps_in-steps.result.now c.in-Some.index (drop (length c.steps_in-steps.result.now) c.args.path.now.items)
    c.write_steps.new.path.items
    c.write_step.new.path.items c.in_ok-write_steps.ensures c.in_ok-write_step-in-Some.ensures

pub returns-in-None : goal.returns-in-None
returns-in-None g c =
    key_behind c.write_last.result c.steps_in-steps.result.now (steps_before c.args.held.now) c.index_in.result (index_of c.args.held.now)
    (drop (length c.steps_in-steps.result.now) c.args.path.now.items) c.write_steps.new.path.items c.write_last.new.path.items
    (segment.Field c.key_at.result.now) _ c.steps_in-steps.ensures c.index_in.ensures (ap segment.Field c.key_at.ensures)
    c.in_ok-write_steps.ensures
    c.in-None.is c.write_last.ensures

pub returns-in_ok-write_step-in-Some : goal.returns-in_ok-write_step-in-Some
returns-in_ok-write_step-in-Some g c =
    key_behind_index c.write_last-in-Some.result c.steps_in-steps.result.now (steps_before c.args.held.now) c.index_in.result
    (index_of c.args.held.now)
    (drop (length c.steps_in-steps.result.now) c.args.path.now.items) c.write_steps.new.path.items c.write_last-in-Some.new.path.items
    (segment.Field c.key_at-in-Some.result.now) _ c.steps_in-steps.ensures c.index_in.ensures (ap segment.Field c.key_at-in-Some.ensures)
    c.in_ok-write_steps.ensures
    c.in-Some.index c.write_step.new.path.items c.in-Some.is c.in_ok-write_step-in-Some.ensures c.write_last-in-Some.ensures
