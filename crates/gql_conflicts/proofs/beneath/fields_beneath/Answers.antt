use Rattle.std.proofs.Common.{◌≡◌, Bool, true, false, IfOk, List, sym, subst}
use Rattle.std.specs.Borrow.{Bor}
use Rattle.gql_doc.specs.declared.document.Field.{Field}
use Rattle.gql_doc.specs.declared.document.Positioned.{Positioned}
use Rattle.gql_select.specs.Behind.{all_behind}
use Rattle.gql_select.specs.Collected.{own_selections}
use Rattle.gql_select.specs.Documents.{with_others}
use Rattle.gql_conflicts.specs.Reader.{fields_by, setting_by}
use Rattle.gql_conflicts.proofs.beneath.fields_beneath.Goals as goal

pub returns-then-reader : goal.returns-then-reader
returns-then-reader c =
    let gives : Bool → Positioned Field → List (Bor (Positioned Field)) → Type 0 = λ once first more.
    IfOk c.collect_once_merged_fields.result (λ fields. all_behind fields.items
    ≡ fields_by once (setting_by c.args.reader.now) c.args.object.now (own_selections (with_others first (all_behind more)))) in
    subst (λ once. gives once c.args.group.now.first c.args.group.now.more.items) (sym c.if-reader.true)
    (subst (λ first. gives true first c.args.group.now.more.items) c.field-first.ensures
    (subst (gives true c.field-first.result.now) c.as_slice-more.ensures.value
    (c.collect_once_merged_fields.ensures (setting_by c.args.reader.now) c.collector-read_by.ensures)))

pub returns-else-reader : goal.returns-else-reader
returns-else-reader c =
    let gives : Bool → Positioned Field → List (Bor (Positioned Field)) → Type 0 = λ once first more.
    IfOk c.collect_merged_fields.result (λ fields. all_behind fields.items
    ≡ fields_by once (setting_by c.args.reader.now) c.args.object.now (own_selections (with_others first (all_behind more)))) in
    subst (λ once. gives once c.args.group.now.first c.args.group.now.more.items) (sym c.if-reader.false)
    (subst (λ first. gives false first c.args.group.now.more.items) c.field-first.ensures
    (subst (gives false c.field-first.result.now) c.as_slice-more.ensures.value
    (c.collect_merged_fields.ensures (setting_by c.args.reader.now) c.collector-read_by.ensures)))
