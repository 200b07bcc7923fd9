use Rattle.std.proofs.Common.{◌≡◌, IfOk, sym, subst}
use Rattle.gql_select.specs.Behind.{all_behind}
use Rattle.gql_conflicts.specs.Reader.{fields_by, setting_by}
use Rattle.gql_conflicts.proofs.beneath.fields_in.Goals as goal

pub returns-then-reader : goal.returns-then-reader
returns-then-reader c =
    subst (λ once. IfOk c.collect_once_fields.result (λ fields. all_behind fields.items
    ≡ fields_by once (setting_by c.args.reader.now) c.args.object.now c.args.selections.now)) (sym c.if-reader.true)
    (c.collect_once_fields.ensures (setting_by c.args.reader.now) c.collector-read_by.ensures)

pub returns-else-reader : goal.returns-else-reader
returns-else-reader c =
    subst (λ once. IfOk c.collect_fields.result (λ fields. all_behind fields.items
    ≡ fields_by once (setting_by c.args.reader.now) c.args.object.now c.args.selections.now)) (sym c.if-reader.false)
    (c.collect_fields.ensures (setting_by c.args.reader.now) c.collector-read_by.ensures)
