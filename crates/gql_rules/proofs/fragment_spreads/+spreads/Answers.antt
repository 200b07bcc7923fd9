use Rattle.std.proofs.Common.{◌≡◌, ◌++◌, OnOk, ap, sym, subst, ◌∙◌}
use Rattle.std.specs.List.{flat_map}
use Rattle.gql_base.specs.Pairs.{names_of}
use Rattle.gql_doc.specs.declared.document.SelectionSet.{out-SelectionSet}
use Rattle.gql_rules.specs.FragmentSpreads.{selection_spreads}
use Rattle.gql_rules.proofs.SpreadLemmas.{spread_in_items}
use Rattle.gql_rules.proofs.fragment_spreads.+spreads.Goals as goal

pub spread_in_set-returns-clause-places : goal.spread_in_set-returns-clause-places
spread_in_set-returns-clause-places t c =
    let items : c.as_slice.result.now ≡ (out-SelectionSet c.args.set.now).items = cc in
    subst (λ places. OnOk c.spread_in_selections.result (c.spread_in_selections.new.places ≡ c.args.places.now ++ places))
    (ap (flat_map (λ selection. selection_spreads (names_of c.args.fragments.now) selection.node)) items
    ∙ sym (spread_in_items (names_of c.args.fragments.now) c.args.set.now))
    c.spread_in_selections.ensures.places
