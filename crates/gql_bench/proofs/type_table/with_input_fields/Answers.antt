use Rattle.std.proofs.Common.{◌∷◌, [], ◌++◌, refl, ap, sym, ◌∙◌}
use Rattle.gql_base.specs.Pairs.{under}
use Rattle.gql_schema.specs.declared.input_object.InputObject.{InputObject}
use Rattle.gql_schema.specs.declared.input_value.InputValue.{InputValue}
use Rattle.gql_bench.specs.FieldTable.{input_in}
use Rattle.gql_bench.proofs.FreshLemmas.{going_more, going_next, going_start}
use Rattle.gql_bench.proofs.type_table.with_input_fields.Goals as goal

pub loop-place-init : goal.loop-place-init
loop-place-init c =
    (going_start input_in 0 c.args.forms.now c.args.input.fields c.requires c.len-place-end.ensures.distinct, refl)

pub field-requires : goal.field-requires
field-requires c =
    ap (λ (f : InputValue). under f.name c.loop-place.input.fields) c.in_ok-field.ensures
    ∙ going_next input_in 0 c.args.forms.now c.loop-place.input.fields c.loop-place.place c.loop-place.place (c.at.result.0.now, c.at.result.1.now)
    c.loop-place.invariant.0 c.at.ensures

pub loop-place-preserved : goal.loop-place-preserved
loop-place-preserved c =
    let fields = c.loop-place.input.fields ++ (c.in_ok-field.field.name, c.in_ok-field.field) ∷ [] in
    let added = ap (λ (o : InputObject). o.fields) c.in_ok-input.ensures in
    let named = ap (λ (f : InputValue). f.name) c.in_ok-field.ensures in
    let going = going_more input_in 0 c.args.forms.now c.loop-place.input.fields c.loop-place.place c.loop-place.place (c.at.result.0.now, c.at.result.1.now)
    c.loop-place.invariant.0 c.at.ensures c.in_ok-input.input.fields c.in_ok-field.field c.in_ok-field.ensures
    (added ∙ ap (λ name. c.loop-place.input.fields ++ (name, c.in_ok-field.field) ∷ []) named) in (
      going,
      c.in_ok-input.ensures ∙ ap (λ (o : InputObject). record o { fields = fields }) c.loop-place.invariant.1
          ∙ ap (λ fs. record c.args.input { fields = fs }) (sym added),
    )
