use Rattle.std.proofs.Common.{ap, ◌∙◌}
use Rattle.gql_objects.specs.Paths.{segment_of, written}
use Rattle.gql_objects.proofs.PathLemmas.{written_more}
use Rattle.gql_objects.proofs.paths.write_steps.Goals as goal

pub loop-place-preserved : goal.loop-place-preserved
loop-place-preserved c =
    let place = c.loop-place.place in
    let path = c.loop-place.path.items in
    written_more c.args.steps.now place c.index-steps-place.result c.args.path.now.items path c.write_step.new.path.items
    c.loop-place-test.true
    (c.in_ok-write_step.ensures ∙ ap (λ step. written place (segment_of step) path) c.index-steps-place.is) c.loop-place.invariant
