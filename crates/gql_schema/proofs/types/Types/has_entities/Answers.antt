use Rattle.gql_schema.specs.Entities.{is_entity_pair}
use Rattle.gql_schema.specs.Table.{types_of}
use Rattle.gql_lists.proofs.AnyLemmas.{any_more, any_passes}
use Rattle.gql_schema.proofs.types.Types.has_entities.Goals as goal

pub returns-then-is_entity_type : goal.returns-then-is_entity_type
returns-then-is_entity_type c =
    any_passes is_entity_pair (types_of c.args.self.now) c.loop-place.place (c.entry.result.0.now, c.entry.result.1.now) c.is_entity_type.result c.entry.ensures
    c.is_entity_type.ensures c.if-is_entity_type.true

pub loop-place-preserved : goal.loop-place-preserved
loop-place-preserved c =
    any_more is_entity_pair (types_of c.args.self.now) c.loop-place.place (c.entry.result.0.now, c.entry.result.1.now) c.is_entity_type.result
    c.loop-place.invariant c.entry.ensures c.is_entity_type.ensures c.if-is_entity_type.false
