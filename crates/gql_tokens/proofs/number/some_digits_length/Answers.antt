use Rattle.std.proofs.Common.{arith}
use Rattle.gql_tokens.proofs.NumberLaws.{digits_some}
use Rattle.gql_tokens.proofs.number.some_digits_length.Goals as goal

pub returns-in_default : goal.returns-in_default
returns-in_default c = digits_some c.args.text.now c.digits_length.result c.digits_length.ensures (λ e. omega arith)
