use Rattle.std.proofs.Common.{◌≡◌, ◌++◌, OnOk, ap, sym, subst, ◌∙◌}
use Rattle.std.specs.List.{flat_map}
use Rattle.gql_doc.specs.declared.document.SelectionSet.{out-SelectionSet}
use Rattle.gql_fields.specs.Places.{selection_places}
use Rattle.gql_fields.specs.UsePlaceViews.{shown}
use Rattle.gql_fields.specs.UsePlaces.{kept}
use Rattle.gql_fields.specs.Walk.{tells, terms_in}
use Rattle.gql_fields.proofs.ToldLemmas.{places_in_set}
use Rattle.gql_fields.proofs.walk.+walk.Goals as goal

pub walk_set-returns-clause-found : goal.walk_set-returns-clause-found
walk_set-returns-clause-found t c =
    let items : c.as_slice.result.now ≡ (out-SelectionSet c.args.set.now).items = cc in
    subst (λ places. OnOk c.walk_selections.result (c.walk_selections.new.found ≡ c.args.found.now ++ tells c.args.against.now places))
    (ap (flat_map (λ selection. selection_places (terms_in c.args.against.now) selection.node c.args.ty.now)) items
    ∙ sym (places_in_set (terms_in c.args.against.now) c.args.set.now c.args.ty.now))
    c.walk_selections.ensures.found

pub walk_set-returns-clause-places : goal.walk_set-returns-clause-places
walk_set-returns-clause-places t c =
    let items : c.as_slice.result.now ≡ (out-SelectionSet c.args.set.now).items = cc in
    subst (λ places. OnOk c.walk_selections.result (shown c.walk_selections.new.places ≡ shown c.args.places.now ++ kept places))
    (ap (flat_map (λ selection. selection_places (terms_in c.args.against.now) selection.node c.args.ty.now)) items
    ∙ sym (places_in_set (terms_in c.args.against.now) c.args.set.now c.args.ty.now))
    c.walk_selections.ensures.places
