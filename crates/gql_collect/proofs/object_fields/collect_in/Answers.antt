use Rattle.std.proofs.Common.{◌≡◌, IfOk, inl, inr, subst, sym}
use Rattle.gql_select.specs.Behind.{all_behind}
use Rattle.gql_collect.specs.Basis.{setting_by}
use Rattle.gql_collect.specs.GroupFields.{collect_by}
use Rattle.gql_collect.specs.declared.basis.Grouping.{Grouping}
use Rattle.gql_collect.specs.declared.basis.Grouping.TheVariants as grouping
use Rattle.gql_collect.proofs.object_fields.collect_in.Goals as goal

pub returns-in-ByKey : goal.returns-in-ByKey
returns-in-ByKey c =
    let gives : Grouping → Type 0 = λ by.
    IfOk c.collect_once_fields.result (λ fields. all_behind fields.items ≡ collect_by by (setting_by c.args.basis.now) c.args.object.now c.args.selections.now) in
    let once : gives grouping.ByKey = c.collect_once_fields.ensures (setting_by c.args.basis.now) c.collector-collector.ensures in
    elim c.in-ByKey.is [
      | inl is ↦ subst gives (sym is) once
      | inr is ↦ subst gives (sym is) once
    ]

pub returns-in-Each : goal.returns-in-Each
returns-in-Each c =
    let gives : Grouping → Type 0 = λ by.
    IfOk c.collect_fields.result (λ fields. all_behind fields.items ≡ collect_by by (setting_by c.args.basis.now) c.args.object.now c.args.selections.now) in
    subst gives (sym c.in-Each.is) (c.collect_fields.ensures (setting_by c.args.basis.now) c.collector-collector.ensures)
