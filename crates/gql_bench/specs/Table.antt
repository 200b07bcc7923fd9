-- What the resolvers of a bench answer, by the rules of their numbers.
use Rattle.std.specs.Prelude.{ℕ, ℤ, List, slice_get}
use Rattle.gql_resolve.specs.Call.{Call}
use Rattle.gql_resolve.specs.declared.answer.Answer.{Answer}
use Rattle.gql_bench.specs.Answer.{rule_answer}
use Rattle.gql_bench.specs.Bump.{rule_effect}
use Rattle.gql_bench.specs.Rule.{rule_delay}
use Rattle.gql_bench.specs.declared.rule.Rule.{Rule}

-- the answer to a call in a world
abbrev pub table_answer : List Rule → Call ℤ → List ℤ → Answer ℤ
table_answer rules call cells = rule_answer (slice_get rules call.resolver) call cells

-- the world after a call in a world
abbrev pub table_effect : List Rule → Call ℤ → List ℤ → List ℤ
table_effect rules call cells = rule_effect (slice_get rules call.resolver) call cells

-- the delay of a resolver
abbrev pub table_delay : List Rule → ℕ → ℕ
table_delay rules resolver = rule_delay (slice_get rules resolver)
