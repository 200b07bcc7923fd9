-- A rule that gives a value at once and nothing else.
use Rattle.std.proofs.Common.{◌≡◌, ℤ, List, map, Option, Ok, sym, ap}
use Rattle.gql_resolve.specs.Call.{Call}
use Rattle.gql_resolve.specs.Lawful.{plain_answer}
use Rattle.gql_bench.specs.Answer.{answer_by, kind_outcome}
use Rattle.gql_bench.specs.Bump.{IsPlainRule, kind_effect}
use Rattle.gql_bench.specs.Outcome.{plain_error}
use Rattle.gql_bench.specs.declared.rule.Rule.{Rule}
use Rattle.gql_resolve.specs.declared.field_value.FieldValue.{FieldValue}
use Rattle.gql_bench.proofs.BumpLemmas.{kind_stays}

-- its value is its whole answer
pub plain_is : (rule : Rule) (call : Call ℤ) (cells : List ℤ) (value : Option (FieldValue ℤ)) → IsPlainRule rule → kind_outcome rule.kind call cells ≡ Ok value
    → plain_answer value ≡ answer_by rule call cells
plain_is rule call cells value plain is = λ i. record { result = sym is i; added = ap (map plain_error) (sym plain.none_added) i; headers = sym plain.no_headers i }

-- the cells stay
pub plain_stays : (rule : Rule) (call : Call ℤ) (cells : List ℤ) → IsPlainRule rule → kind_effect rule.kind call cells ≡ cells
plain_stays rule call cells plain = kind_stays rule.kind call cells plain.stays
