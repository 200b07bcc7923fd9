-- Settings of the same fragments and types collect the same fields.
use Rattle.std.proofs.Common.{◌≡◌, ℕ, zero, suc, List, [], Option, Some, None, cond, refl, ap, sym, ◌∙◌}
use Rattle.std.specs.List.{flat_map}
use Rattle.gql_base.specs.Pairs.{under}
use Rattle.gql_doc.specs.Depth.{fragment_set, selections_of}
use Rattle.gql_doc.specs.declared.document.Field.{Field}
use Rattle.gql_doc.specs.declared.document.FragmentDefinition.{FragmentDefinition}
use Rattle.gql_doc.specs.declared.document.InlineFragment.{InlineFragment, out-InlineFragment}
use Rattle.gql_doc.specs.declared.document.Positioned.{Positioned}
use Rattle.gql_doc.specs.declared.document.Selection.{Selection, out-Selection}
use Rattle.gql_doc.specs.declared.document.Selection.TheOpen.{Selection-F}
use Rattle.gql_doc.specs.declared.document.SelectionSet.{SelectionSet}
use Rattle.gql_select.specs.Collected.{Setting, collect, collect_within, fields_of, fields_of_spread, fields_under}
use Rattle.gql_collect.specs.CollectFields.{collected, ReadsAlike, setting_by}
use Rattle.gql_collect.specs.declared.collect.Collector.{Collector}

module _ (s t : Setting) (fragments_are : s.fragments ≡ t.fragments) (covers_are : s.covers ≡ t.covers) (object : List ℕ) where
  module _ (deeper other : List (Positioned Selection) → List (Positioned Field)) (same : deeper ≡ other) where
    spread_alike : (o : Option (Positioned FragmentDefinition)) → fields_of_spread s object deeper o ≡ fields_of_spread t object other o
    spread_alike None = refl
    spread_alike (Some fragment) =
        λ i. cond (covers_are i fragment.node.type_condition.node object) (same i (selections_of (fragment_set fragment))) []

    under_alike : (o : Option (Positioned (List ℕ))) (selections : List (Positioned Selection))
        → fields_under s object deeper o selections ≡ fields_under t object other o selections
    under_alike None selections = λ i. same i selections
    under_alike (Some condition) selections = λ i. cond (covers_are i condition.node object) (same i selections) []

    here_alike : (x : Selection-F Selection Field InlineFragment SelectionSet) → fields_of s object deeper x ≡ fields_of t object other x
    here_alike (Selection-F.Field field) = refl
    here_alike (Selection-F.FragmentSpread spread) =
        spread_alike (under spread.node.fragment_name.node s.fragments)
        ∙ ap (λ fragments. fields_of_spread t object other (under spread.node.fragment_name.node fragments)) fragments_are
    here_alike (Selection-F.InlineFragment fragment) =
        under_alike (out-InlineFragment fragment.node).type_condition (selections_of (out-InlineFragment fragment.node).selection_set)

  within_alike : (left : ℕ) → collect_within s left object ≡ collect_within t left object
  within_alike zero = refl
  within_alike (suc left) = λ i selections.
      flat_map (λ selection. here_alike (collect_within s left object) (collect_within t left object) (within_alike left) (out-Selection selection.node) i) selections

-- each setting that reads alike collects what the collector does
pub collected_alike : (collector : Collector) (setting : Setting) → ReadsAlike collector setting → (object : List ℕ) (selections : List (Positioned Selection))
    → collected collector object selections ≡ collect setting object selections
collected_alike collector setting reads object selections =
    (λ i. within_alike (setting_by collector) setting (sym reads.fragments_are) (sym reads.covers_are) object collector.levels i selections)
    ∙ ap (λ levels. collect_within setting levels object selections) (sym reads.levels_are)
