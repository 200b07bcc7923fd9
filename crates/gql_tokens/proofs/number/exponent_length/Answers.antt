use Rattle.std.proofs.Common.{◌∙◌, sym}
use Rattle.gql_tokens.proofs.NumberLaws.{exponent_at}
use Rattle.gql_tokens.proofs.number.exponent_length.Goals as goal

pub returns-in_ok-power_length-in-len1-up : goal.returns-in_ok-power_length-in-len1-up
returns-in_ok-power_length-in-len1-up c =
    exponent_at c.args.text.now c.in_ok-power_length-in-len1-up.field-0 c.in-len1-up.len_at_least
    (sym c.begins_exponent.ensures ∙ c.if-begins_exponent.true) c.in_ok-power_length-in-len1-up.ensures
