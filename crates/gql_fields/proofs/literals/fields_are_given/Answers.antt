use Rattle.gql_schema.specs.Fits.{is_given}
use Rattle.gql_schema.specs.InputObject.{input_fields}
use Rattle.gql_lists.proofs.AllLemmas.{all_fails, all_more}
use Rattle.gql_fields.proofs.literals.fields_are_given.Goals as goal

pub returns-then-not-field_is_given : goal.returns-then-not-field_is_given
returns-then-not-field_is_given c =
    all_fails (is_given c.args.members.now) (input_fields c.args.input.now) c.loop-place.place _ c.field_is_given.result c.entry.ensures
    c.field_is_given.ensures
    c.if-not-field_is_given.true

pub loop-place-preserved : goal.loop-place-preserved
loop-place-preserved c =
    all_more (is_given c.args.members.now) (input_fields c.args.input.now) c.loop-place.place _ c.field_is_given.result
    c.loop-place.invariant c.entry.ensures
    c.field_is_given.ensures c.if-not-field_is_given.false
