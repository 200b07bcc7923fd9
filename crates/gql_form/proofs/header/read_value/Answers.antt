use Rattle.std.proofs.Common.{◌≡◌, true, sym, ap, Ok}
use Rattle.std.specs.List.{list_all}
use Rattle.http_header.specs.Token.{is_value_byte}
use Rattle.gql_form.proofs.HeaderLemmas.{value_passes}
use Rattle.gql_form.proofs.header.read_value.Goals as goal

pub returns-in-Ok : goal.returns-in-Ok
returns-in-Ok c =
    let here : list_all is_value_byte c.args.text.now ≡ true = value_passes c.args.text.now c.from_str.result _ c.in-Ok.value c.from_str.ensures.invalid c.in-Ok.is in
    rw here (ap Ok (sym c.in-Ok.ensures.ok))
