use Rattle.std.proofs.Common.{ap, ◌∙◌}
use Rattle.gql_schema.specs.Faults.{field_fault, named_field_fault}
use Rattle.gql_schema.specs.Table.{types_of}
use Rattle.gql_lists.proofs.FirstLemmas.{first_here, first_more}
use Rattle.gql_schema.proofs.checks.check_fields.Goals as goal

pub returns-then-is_some : goal.returns-then-is_some
returns-then-is_some g c =
    first_here (named_field_fault g.T.Declares.declares (types_of c.args.types.now) c.args.owner.now) c.args.fields.now c.loop-place.place
    (c.at.result.0.now, c.at.result.1.now) c.in_ok-found.found c.is_some.result c.loop-place.invariant c.at.ensures
    (c.in_ok-found.ensures ∙ ap (field_fault (types_of c.args.types.now) c.args.owner.now c.at.result.0.now) c.declared.ensures)
    c.is_some.ensures c.if-is_some.true

pub loop-place-preserved : goal.loop-place-preserved
loop-place-preserved g c =
    first_more (named_field_fault g.T.Declares.declares (types_of c.args.types.now) c.args.owner.now) c.args.fields.now c.loop-place.place
    (c.at.result.0.now, c.at.result.1.now) c.in_ok-found.found c.is_some.result c.loop-place.invariant c.at.ensures
    (c.in_ok-found.ensures ∙ ap (field_fault (types_of c.args.types.now) c.args.owner.now c.at.result.0.now) c.declared.ensures)
    c.is_some.ensures c.if-is_some.false
