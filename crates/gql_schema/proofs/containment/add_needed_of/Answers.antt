use Rattle.std.proofs.Common.{ap, ◌∙◌}
use Rattle.std.specs.Option.{option_copied}
use Rattle.gql_schema.specs.InputObject.{input_fields}
use Rattle.gql_schema.specs.Sound.{needed_of}
use Rattle.gql_schema.proofs.ReachLemmas.{needed_more}
use Rattle.gql_schema.proofs.containment.add_needed_of.Goals as goal

pub loop-place-preserved : goal.loop-place-preserved
loop-place-preserved c =
    c.in_ok-add_optional.ensures
    ∙ needed_more (input_fields c.args.input.now) c.loop-place.place (c.entry.result.0.now, c.entry.result.1.now) c.args.reached.now c.loop-place.reached
    (option_copied c.needed_type.result) c.entry.ensures c.loop-place.invariant (c.needed_type.ensures ∙ ap needed_of c.ty.ensures)
