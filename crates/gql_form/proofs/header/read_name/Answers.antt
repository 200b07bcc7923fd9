use Rattle.std.proofs.Common.{◌≡◌, true, false, sym, ap, ◌∙◌, Ok, Err}
use Rattle.http_header.specs.FieldName.{is_field_name}
use Rattle.http_header.specs.Token.{lowercase}
use Rattle.gql_form.proofs.HeaderLemmas.{name_passes, name_fails}
use Rattle.gql_form.proofs.header.read_name.Goals as goal

pub returns-in-Ok : goal.returns-in-Ok
returns-in-Ok c =
    let passed = name_passes c.as_bytes.result.now c.from_bytes.result _ c.in-Ok.name c.from_bytes.ensures.invalid c.in-Ok.is in
    let here : is_field_name c.args.text.now ≡ true = ap is_field_name (sym c.as_bytes.ensures.value) ∙ passed in
    let kept = c.in-Ok.ensures.ok ∙ ap lowercase c.as_bytes.ensures.value in
    rw here (ap Ok (sym kept))

pub returns-in-Err-Invalid : goal.returns-in-Err-Invalid
returns-in-Err-Invalid c =
    let failed = name_fails c.as_bytes.result.now c.from_bytes.result _ c.from_bytes.ensures.invalid (c.in-Err-Invalid.is ∙ ap Err c.in-Err-Invalid.field-0-is) in
    let here : is_field_name c.args.text.now ≡ false = ap is_field_name (sym c.as_bytes.ensures.value) ∙ failed in
    rw here c.bad.ensures
