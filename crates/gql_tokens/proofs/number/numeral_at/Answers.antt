use Rattle.std.proofs.Common.{◌+◌, sym, ◌∙◌, ltb-true}
use Rattle.gql_tokens.specs.Number.{is_bad_after_number}
use Rattle.gql_tokens.proofs.Lists.{begins_at}
use Rattle.gql_tokens.proofs.NumberLaws.{no_part, numeral_bad}
use Rattle.gql_tokens.proofs.number.numeral_at.Goals as goal

pub returns-in_err-part : goal.returns-in_err-part
returns-in_err-part c =
    rw c.from_residual-in_err-part.ensures (no_part c.args.text.now c.in_ok-integer.integer c.in_ok-integer.ensures c.in_err-part.ensures)

pub returns-in-Some : goal.returns-in-Some
returns-in-Some c =
    let text = c.args.text.now in
    let n = c.in_ok-integer.integer in
    let m = c.in_ok-part.part in
    let found = c.in-Some.ensures.lookup in
    numeral_bad text n m c.in_ok-integer.ensures c.in_ok-part.ensures
    (begins_at is_bad_after_number text (n + m) c.in-Some.c.now (ltb-true _ _ (sym found.0)) found.1
    ∙ sym c.is_bad_after_number.ensures ∙ c.if-is_bad_after_number.true)
