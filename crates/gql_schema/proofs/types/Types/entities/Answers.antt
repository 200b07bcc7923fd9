use Rattle.std.proofs.Common.{ap, ◌∙◌}
use Rattle.gql_schema.specs.Entities.{is_entity_pair}
use Rattle.gql_schema.specs.NameSet.{is_among}
use Rattle.gql_schema.specs.Table.{types_of}
use Rattle.gql_schema.proofs.PossibleLemmas.{chosen_more, fresh_chosen}
use Rattle.gql_schema.proofs.types.Types.entities.Goals as goal

pub add_where-requires : goal.add_where-requires
add_where-requires c =
    ap (is_among c.entry.result.0.now) c.loop-place.invariant
    ∙ fresh_chosen is_entity_pair (types_of c.args.self.now) c.loop-place.place c.entry.result.0.now c.entry.result.1.now c.len-place-end.ensures.distinct c.entry.ensures

pub loop-place-preserved : goal.loop-place-preserved
loop-place-preserved c =
    chosen_more is_entity_pair (types_of c.args.self.now) c.loop-place.place c.entry.result.0.now c.entry.result.1.now c.loop-place.names c.add_where.new.names
    c.is_entity_type.result c.entry.ensures c.loop-place.invariant c.is_entity_type.ensures c.in_ok-add_where.ensures
