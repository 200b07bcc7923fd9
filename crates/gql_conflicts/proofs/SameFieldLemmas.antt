-- Fields and inline fragments are the same where their parts are.
use Rattle.std.proofs.Common.{◌≡◌, sym, ap, ◌∙◌}
use Rattle.gql_doc.specs.declared.document.Field.{Field, out-Field, roll-Field, roll-out-Field}
use Rattle.gql_doc.specs.declared.document.InlineFragment.{InlineFragment, out-InlineFragment, roll-InlineFragment, roll-out-InlineFragment}
use Rattle.gql_doc.specs.declared.document.Selection.{Selection}
use Rattle.gql_doc.specs.declared.document.Selection.TheOpen.{Field-F, InlineFragment-F}
use Rattle.gql_doc.specs.declared.document.SelectionSet.{SelectionSet}

abbrev Parts : Type 0
Parts = Field-F Selection Field InlineFragment SelectionSet

abbrev InlineParts : Type 0
InlineParts = InlineFragment-F Selection Field InlineFragment SelectionSet

joined : (x y : Parts) → x.alias ≡ y.alias → x.name ≡ y.name → x.arguments ≡ y.arguments → x.directives ≡ y.directives → x.selection_set ≡ y.selection_set → x ≡ y
joined x y alias name arguments directives set =
    λ i. record { alias = alias i; name = name i; arguments = arguments i; directives = directives i; selection_set = set i }

inline_joined : (x y : InlineParts) → x.type_condition ≡ y.type_condition → x.directives ≡ y.directives → x.selection_set ≡ y.selection_set → x ≡ y
inline_joined x y condition directives set =
    λ i. record { type_condition = condition i; directives = directives i; selection_set = set i }

pub same_by_parts : (one other : Field) → (out-Field one).alias ≡ (out-Field other).alias → (out-Field one).name ≡ (out-Field other).name
    → (out-Field one).arguments ≡ (out-Field other).arguments → (out-Field one).directives ≡ (out-Field other).directives
    → (out-Field one).selection_set ≡ (out-Field other).selection_set → one ≡ other
same_by_parts one other alias name arguments directives set =
    sym (roll-out-Field one) ∙ ap roll-Field (joined (out-Field one) (out-Field other) alias name arguments directives set) ∙ roll-out-Field other

pub same_inline_by_parts : (one other : InlineFragment) → (out-InlineFragment one).type_condition ≡ (out-InlineFragment other).type_condition
    → (out-InlineFragment one).directives ≡ (out-InlineFragment other).directives
    → (out-InlineFragment one).selection_set ≡ (out-InlineFragment other).selection_set → one ≡ other
same_inline_by_parts one other condition directives set =
    sym (roll-out-InlineFragment one) ∙ ap roll-InlineFragment (inline_joined (out-InlineFragment one) (out-InlineFragment other) condition directives set) ∙ roll-out-InlineFragment other
