-- Settings of the same fragments and types collect the same fields, where each fragment is entered once.
use Rattle.std.proofs.Common.{◌≡◌, ℕ, zero, suc, List, ◌∷◌, Option, Some, None, cond, fold, refl, ap, sym, ◌∙◌}
use Rattle.gql_base.specs.Pairs.{under}
use Rattle.gql_doc.specs.Depth.{fragment_set, selections_of}
use Rattle.gql_doc.specs.declared.document.Field.{Field}
use Rattle.gql_doc.specs.declared.document.FragmentDefinition.{FragmentDefinition}
use Rattle.gql_doc.specs.declared.document.InlineFragment.{InlineFragment, out-InlineFragment}
use Rattle.gql_doc.specs.declared.document.Positioned.{Positioned}
use Rattle.gql_doc.specs.declared.document.Selection.{Selection, out-Selection}
use Rattle.gql_doc.specs.declared.document.Selection.TheOpen.{Selection-F}
use Rattle.gql_doc.specs.declared.document.SelectionSet.{SelectionSet}
use Rattle.gql_select.specs.Collected.{Setting}
use Rattle.gql_select.specs.Once.{collect_once, enter, is_entered, nothing, once_of, once_spread, once_under, once_within, Walk}
use Rattle.gql_collect.specs.CollectFields.{ReadsAlike, setting_by}
use Rattle.gql_collect.specs.CollectOnce.{once_collected}
use Rattle.gql_collect.specs.declared.collect.Collector.{Collector}

module _ (s t : Setting) (fragments_are : s.fragments ≡ t.fragments) (covers_are : s.covers ≡ t.covers) (object : List ℕ) where
  module _ (deeper other : Walk → List (Positioned Selection) → Walk) (same : deeper ≡ other) (walk : Walk) where
    enter_alike : (name : List ℕ) (o : Option (Positioned FragmentDefinition)) → enter s object deeper walk name o ≡ enter t object other walk name o
    enter_alike name None = refl
    enter_alike name (Some fragment) =
        λ i. cond (covers_are i fragment.node.type_condition.node object)
        (same i (record walk { entered = name ∷ walk.entered }) (selections_of (fragment_set fragment))) walk

    spread_alike : (name : List ℕ) → once_spread s object deeper walk name ≡ once_spread t object other walk name
    spread_alike name =
        ap (cond (is_entered name walk) walk)
        (enter_alike name (under name s.fragments) ∙ ap (λ fragments. enter t object other walk name (under name fragments)) fragments_are)

    under_alike : (o : Option (Positioned (List ℕ))) (selections : List (Positioned Selection))
        → once_under s object deeper walk o selections ≡ once_under t object other walk o selections
    under_alike None selections = λ i. same i walk selections
    under_alike (Some condition) selections = λ i. cond (covers_are i condition.node object) (same i walk selections) walk

    here_alike : (x : Selection-F Selection Field InlineFragment SelectionSet) → once_of s object deeper walk x ≡ once_of t object other walk x
    here_alike (Selection-F.Field field) = refl
    here_alike (Selection-F.FragmentSpread spread) = spread_alike spread.node.fragment_name.node
    here_alike (Selection-F.InlineFragment fragment) =
        under_alike (out-InlineFragment fragment.node).type_condition (selections_of (out-InlineFragment fragment.node).selection_set)

  within_alike : (left : ℕ) → once_within s left object ≡ once_within t left object
  within_alike zero = refl
  within_alike (suc left) = λ i walk selections.
      fold (λ walk selection. here_alike (once_within s left object) (once_within t left object) (within_alike left) walk (out-Selection selection.node) i)
      walk selections

-- each setting that reads alike collects what the collector does
pub once_alike : (collector : Collector) (setting : Setting) → ReadsAlike collector setting → (object : List ℕ) (selections : List (Positioned Selection))
    → once_collected collector object selections ≡ collect_once setting object selections
once_alike collector setting reads object selections =
    (λ i. (within_alike (setting_by collector) setting (sym reads.fragments_are) (sym reads.covers_are) object collector.levels i nothing selections).fields)
    ∙ ap (λ levels. (once_within setting levels object nothing selections).fields) (sym reads.levels_are)
