use Rattle.std.proofs.Common.{arith, length, map, option_map, refl, ap, ◌∙◌}
use Rattle.std.proofs.lemmas.Option.{slice_get-map, slice_get_read}
use Rattle.gql_input.specs.EnumType.{item_pair}
use Rattle.gql_input.proofs.EnumLemmas.{name_here, name_more}
use Rattle.gql_input.proofs.enum_type.name_for.Goals as goal

pub returns-then-eq : goal.returns-then-eq
returns-then-eq g c =
    name_here g.T.PartialEq.eq c.args.value (map item_pair c.args.items.now) c.loop-item.item-index (item_pair c.item-item.result) c.eq.result c.loop-item.invariant
    (slice_get-map item_pair c.args.items.now c.loop-item.item-index
    ∙ ap (option_map item_pair)
    (slice_get_read c.args.items.now (length c.args.items.now) c.loop-item.item-index c.item-item.result refl (omega arith) c.item-item.is))
    c.eq.ensures c.if-eq.true

pub loop-item-preserved : goal.loop-item-preserved
loop-item-preserved g c =
    name_more g.T.PartialEq.eq c.args.value (map item_pair c.args.items.now) c.loop-item.item-index (item_pair c.item-item.result) c.eq.result c.loop-item.invariant
    (slice_get-map item_pair c.args.items.now c.loop-item.item-index
    ∙ ap (option_map item_pair)
    (slice_get_read c.args.items.now (length c.args.items.now) c.loop-item.item-index c.item-item.result refl (omega arith) c.item-item.is))
    c.eq.ensures c.if-eq.false
