use Rattle.std.proofs.Common.{ap, ◌∙◌, arith, ◌≡◌}
use Rattle.std.proofs.lemmas.List.{take_all}
use Rattle.gql_tokens.specs.Number.{natural_of}
use Rattle.gql_tokens.proofs.NumberLaws.{natural_more}
use Rattle.gql_tokens.proofs.number.natural_of.Goals as goal

pub returns-in_err-number : goal.returns-in_err-number
returns-in_err-number c =
    let more = natural_more c.args.digits.now c.loop-digit.digit-index c.loop-digit-test.true in
    let front = c.loop-digit.invariant.exact in
    rw c.from_residual.ensures (λ small. c.in_err-number.ensures (omega arith))

pub returns : goal.returns
returns c =
    let all : c.loop-digit.number ≡ natural_of c.args.digits.now =
    c.loop-digit.invariant.exact ∙ ap natural_of (take_all c.loop-digit.digit-index c.args.digits.now c.loop-digit-test.false) in
    (omega arith, all)
