use Rattle.std.proofs.Common.{◌+◌, ◌∷◌, [], ◌++◌, refl, ap, sym, ◌∙◌, subst, drop}
use Rattle.gql_base.specs.Pairs.{under}
use Rattle.gql_schema.specs.declared.subscription.Subscription.{Subscription}
use Rattle.gql_schema.specs.declared.subscription_field.SubscriptionField.{SubscriptionField}
use Rattle.gql_bench.specs.FieldTable.{event_field_in}
use Rattle.gql_bench.proofs.FreshLemmas.{IsGoing, going_more, going_next, going_start}
use Rattle.gql_bench.proofs.type_table.with_event_fields.Goals as goal

pub loop-place-init : goal.loop-place-init
loop-place-init c =
    (going_start event_field_in c.args.number c.args.forms.now c.args.subscription.fields c.requires c.len-place-end.ensures.distinct, refl)

pub field-requires : goal.field-requires
field-requires c =
    ap (λ (f : SubscriptionField). under f.name c.loop-place.subscription.fields) c.in_ok-field.ensures
    ∙ going_next event_field_in c.args.number c.args.forms.now c.loop-place.subscription.fields c.loop-place.number c.loop-place.place (c.at.result.0.now, c.at.result.1.now)
    c.loop-place.invariant.0 c.at.ensures

pub loop-place-preserved : goal.loop-place-preserved
loop-place-preserved c =
    let fields = c.loop-place.subscription.fields ++ (c.in_ok-field.field.name, c.in_ok-field.field) ∷ [] in
    let added = ap (λ (o : Subscription). o.fields) c.in_ok-subscription.ensures in
    let named = ap (λ (f : SubscriptionField). f.name) c.in_ok-field.ensures in
    let going = going_more event_field_in c.args.number c.args.forms.now c.loop-place.subscription.fields c.loop-place.number c.loop-place.place (c.at.result.0.now, c.at.result.1.now)
    c.loop-place.invariant.0 c.at.ensures c.in_ok-subscription.subscription.fields c.in_ok-field.field c.in_ok-field.ensures
    (added ∙ ap (λ name. c.loop-place.subscription.fields ++ (name, c.in_ok-field.field) ∷ []) named) in (
      subst (λ number. IsGoing event_field_in c.args.number c.args.forms.now c.in_ok-subscription.subscription.fields number (drop (c.loop-place.place + 1) c.args.forms.now)) (sym c.in_ok-number.ensures) going,
      c.in_ok-subscription.ensures ∙ ap (λ (o : Subscription). record o { fields = fields }) c.loop-place.invariant.1
          ∙ ap (λ fs. record c.args.subscription { fields = fs }) (sym added),
    )
