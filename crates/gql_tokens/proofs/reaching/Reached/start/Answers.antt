use Rattle.std.proofs.Common.{arith}
use Rattle.std.proofs.lemmas.Str.{IsCharBoundary-start}
use Rattle.gql_tokens.proofs.reaching.Reached.start.Goals as goal

pub returns-clause-reached : goal.returns-clause-reached
returns-clause-reached c = λ text utf8.
    record { boundary = IsCharBoundary-start text utf8; line = omega arith; column = omega arith; known = λ off. absurd cc }
