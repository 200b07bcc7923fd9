use Rattle.std.proofs.Common.{◌∷◌, [], ◌++◌, refl, ap, sym, ◌∙◌}
use Rattle.gql_base.specs.Pairs.{under}
use Rattle.gql_schema.specs.declared.interface.Interface.{Interface}
use Rattle.gql_schema.specs.declared.interface_field.InterfaceField.{InterfaceField}
use Rattle.gql_bench.specs.FieldTable.{promised_in}
use Rattle.gql_bench.proofs.FreshLemmas.{going_more, going_next, going_start}
use Rattle.gql_bench.proofs.type_table.promising.Goals as goal

pub loop-place-init : goal.loop-place-init
loop-place-init c =
    (going_start promised_in 0 c.args.forms.now c.args.interface.fields c.requires c.len-place-end.ensures.distinct, refl)

pub field-requires : goal.field-requires
field-requires c =
    ap (λ (f : InterfaceField). under f.name c.loop-place.interface.fields) c.in_ok-field.ensures
    ∙ going_next promised_in 0 c.args.forms.now c.loop-place.interface.fields c.loop-place.place c.loop-place.place (c.at.result.0.now, c.at.result.1.now)
    c.loop-place.invariant.0 c.at.ensures

pub loop-place-preserved : goal.loop-place-preserved
loop-place-preserved c =
    let fields = c.loop-place.interface.fields ++ (c.in_ok-field.field.name, c.in_ok-field.field) ∷ [] in
    let added = ap (λ (o : Interface). o.fields) c.in_ok-interface.ensures in
    let named = ap (λ (f : InterfaceField). f.name) c.in_ok-field.ensures in
    let going = going_more promised_in 0 c.args.forms.now c.loop-place.interface.fields c.loop-place.place c.loop-place.place (c.at.result.0.now, c.at.result.1.now)
    c.loop-place.invariant.0 c.at.ensures c.in_ok-interface.interface.fields c.in_ok-field.field c.in_ok-field.ensures
    (added ∙ ap (λ name. c.loop-place.interface.fields ++ (name, c.in_ok-field.field) ∷ []) named) in (
      going,
      c.in_ok-interface.ensures ∙ ap (λ (o : Interface). record o { fields = fields }) c.loop-place.invariant.1
          ∙ ap (λ fs. record c.args.interface { fields = fs }) (sym added),
    )
