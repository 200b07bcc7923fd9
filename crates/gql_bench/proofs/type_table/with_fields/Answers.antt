use Rattle.std.proofs.Common.{◌+◌, ◌∷◌, [], ◌++◌, refl, ap, sym, ◌∙◌, subst, drop}
use Rattle.gql_base.specs.Pairs.{under}
use Rattle.gql_schema.specs.declared.object.Object.{Object}
use Rattle.gql_schema.specs.declared.field.Field.{Field}
use Rattle.gql_bench.specs.FieldTable.{field_in}
use Rattle.gql_bench.proofs.FreshLemmas.{IsGoing, going_more, going_next, going_start}
use Rattle.gql_bench.proofs.type_table.with_fields.Goals as goal

pub loop-place-init : goal.loop-place-init
loop-place-init c =
    (going_start field_in c.args.number c.args.forms.now c.args.object.fields c.requires c.len-place-end.ensures.distinct, refl)

pub field-requires : goal.field-requires
field-requires c =
    ap (λ (f : Field). under f.name c.loop-place.object.fields) c.in_ok-field.ensures
    ∙ going_next field_in c.args.number c.args.forms.now c.loop-place.object.fields c.loop-place.number c.loop-place.place (c.at.result.0.now, c.at.result.1.now)
    c.loop-place.invariant.0 c.at.ensures

pub loop-place-preserved : goal.loop-place-preserved
loop-place-preserved c =
    let fields = c.loop-place.object.fields ++ (c.in_ok-field.field.name, c.in_ok-field.field) ∷ [] in
    let added = ap (λ (o : Object). o.fields) c.in_ok-object.ensures in
    let named = ap (λ (f : Field). f.name) c.in_ok-field.ensures in
    let going = going_more field_in c.args.number c.args.forms.now c.loop-place.object.fields c.loop-place.number c.loop-place.place (c.at.result.0.now, c.at.result.1.now)
    c.loop-place.invariant.0 c.at.ensures c.in_ok-object.object.fields c.in_ok-field.field c.in_ok-field.ensures
    (added ∙ ap (λ name. c.loop-place.object.fields ++ (name, c.in_ok-field.field) ∷ []) named) in (
      subst (λ number. IsGoing field_in c.args.number c.args.forms.now c.in_ok-object.object.fields number (drop (c.loop-place.place + 1) c.args.forms.now)) (sym c.in_ok-number.ensures) going,
      c.in_ok-object.ensures ∙ ap (λ (o : Object). record o { fields = fields }) c.loop-place.invariant.1
          ∙ ap (λ fs. record c.args.object { fields = fs }) (sym added),
    )
