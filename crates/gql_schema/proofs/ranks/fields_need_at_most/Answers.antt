use Rattle.std.proofs.Common.{ap, ◌∙◌}
use Rattle.gql_schema.specs.InputObject.{input_fields}
use Rattle.gql_schema.specs.Ranks.{is_low, is_low_field}
use Rattle.gql_schema.specs.Sound.{needed_of}
use Rattle.gql_schema.specs.Table.{types_of}
use Rattle.gql_lists.proofs.AllLemmas.{all_fails, all_more}
use Rattle.gql_schema.proofs.ranks.fields_need_at_most.Goals as goal

pub returns-then-not-is_at_most : goal.returns-then-not-is_at_most
returns-then-not-is_at_most c =
    let table = types_of c.args.types.now in
    all_fails (is_low_field table c.args.ranks.now c.args.most) (input_fields c.args.input.now) c.loop-place.place
    (c.entry.result.0.now, c.entry.result.1.now) c.is_at_most.result c.entry.ensures
    (c.is_at_most.ensures ∙ ap (is_low table c.args.ranks.now c.args.most) (c.needed_type.ensures ∙ ap needed_of c.ty.ensures)) c.if-not-is_at_most.true

pub loop-place-preserved : goal.loop-place-preserved
loop-place-preserved c =
    let table = types_of c.args.types.now in
    all_more (is_low_field table c.args.ranks.now c.args.most) (input_fields c.args.input.now) c.loop-place.place
    (c.entry.result.0.now, c.entry.result.1.now) c.is_at_most.result c.loop-place.invariant c.entry.ensures
    (c.is_at_most.ensures ∙ ap (is_low table c.args.ranks.now c.args.most) (c.needed_type.ensures ∙ ap needed_of c.ty.ensures)) c.if-not-is_at_most.false
