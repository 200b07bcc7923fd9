use Rattle.std.proofs.Common.{◌≡◌, IfOk, inl, inr, List, subst, sym}
use Rattle.std.specs.Borrow.{Bor}
use Rattle.gql_doc.specs.declared.document.Field.{Field}
use Rattle.gql_doc.specs.declared.document.Positioned.{Positioned}
use Rattle.gql_select.specs.Behind.{all_behind}
use Rattle.gql_select.specs.Collected.{own_selections}
use Rattle.gql_select.specs.Documents.{with_others}
use Rattle.gql_collect.specs.Basis.{setting_by}
use Rattle.gql_collect.specs.GroupFields.{collect_by}
use Rattle.gql_collect.specs.declared.basis.Grouping.{Grouping}
use Rattle.gql_collect.specs.declared.basis.Grouping.TheVariants as grouping
use Rattle.gql_collect.proofs.object_fields.collect_beneath.Goals as goal

pub returns-in-ByKey : goal.returns-in-ByKey
returns-in-ByKey c =
    let first : Positioned Field = c.args.group.now.first.now in
    let gives : Grouping → List (Bor (Positioned Field)) → Type 0 = λ by more.
    IfOk c.collect_once_merged_fields.result (λ fields. all_behind fields.items
    ≡ collect_by by (setting_by c.args.basis.now) c.args.object.now (own_selections (with_others first (all_behind more)))) in
    let once : gives grouping.ByKey c.args.group.now.more.items
    = subst (gives grouping.ByKey) c.as_slice-more.ensures.value
    (c.collect_once_merged_fields.ensures (setting_by c.args.basis.now) c.collector-collector.ensures) in
    elim c.in-ByKey.is [
      | inl is ↦ subst (λ by. gives by c.args.group.now.more.items) (sym is) once
      | inr is ↦ subst (λ by. gives by c.args.group.now.more.items) (sym is) once
    ]

pub returns-in-Each : goal.returns-in-Each
returns-in-Each c =
    let first : Positioned Field = c.args.group.now.first.now in
    let gives : Grouping → List (Bor (Positioned Field)) → Type 0 = λ by more.
    IfOk c.collect_merged_fields.result (λ fields. all_behind fields.items
    ≡ collect_by by (setting_by c.args.basis.now) c.args.object.now (own_selections (with_others first (all_behind more)))) in
    subst (λ by. gives by c.args.group.now.more.items) (sym c.in-Each.is)
    (subst (gives grouping.Each) c.as_slice-more.ensures.value
    (c.collect_merged_fields.ensures (setting_by c.args.basis.now) c.collector-collector.ensures))
