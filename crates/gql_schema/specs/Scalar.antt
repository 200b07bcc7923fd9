-- What a scalar shows: its name, and the rule by which it takes values.
use Rattle.std.specs.Prelude.{ℕ, List}
use Rattle.gql_schema.specs.declared.scalar.Scalar.{Scalar}
use Rattle.gql_schema.specs.declared.scalar_rule.ScalarRule.{ScalarRule}

abbrev pub scalar_name : Scalar → List ℕ
scalar_name scalar = scalar.name

abbrev pub rule_of : Scalar → ScalarRule
rule_of scalar = scalar.rule

abbrev pub new_scalar : List ℕ → ScalarRule → Scalar
new_scalar name rule = record { name = name; rule = rule }
