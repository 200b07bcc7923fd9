use Rattle.gql_tokens.proofs.NumberLaws.{part_some, part_none}
use Rattle.gql_tokens.proofs.number.float_part_length.Goals as goal

pub returns-in_err-exponent : goal.returns-in_err-exponent
returns-in_err-exponent c =
    rw c.from_residual-in_err-exponent.ensures (part_none c.args.text.now c.in_ok-fraction.fraction c.in_ok-fraction.ensures c.in_err-exponent.ensures)

pub returns : goal.returns
returns c =
    part_some c.args.text.now c.in_ok-fraction.fraction c.in_ok-exponent.exponent c.in_ok-fraction.ensures c.in_ok-exponent.ensures
