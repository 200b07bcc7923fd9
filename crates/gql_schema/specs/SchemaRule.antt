-- The rules of a table of types (GraphQL, October 2021, section 3, "Type Validation"), and their
-- numbers, by which refusals tell them.
use Rattle.std.specs.Prelude.{ℕ}
use Rattle.gql_schema.specs.declared.schema_rule.SchemaRule.{SchemaRule}
use Rattle.gql_schema.specs.declared.schema_rule.SchemaRule.TheVariants as broken

abbrev pub number_of : SchemaRule → ℕ
number_of broken.NotFound = 1
number_of broken.Misplaced = 2
number_of broken.DoublyNonNull = 3
number_of broken.NotOptional = 4
number_of broken.Unsatisfied = 5
number_of broken.NoObject = 6
number_of broken.ContainsItself = 7
number_of broken.Unsupported = 8
number_of broken.Unfit = 9
