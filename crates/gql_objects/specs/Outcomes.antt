-- What comes of what a field asks (GraphQL, October 2021, section 6.4.3).
use Rattle.std.specs.Prelude.{ℕ, Bool, List}
use Rattle.gql_collect.specs.Execution.{Execution}
use Rattle.gql_collect.specs.declared.asks.Asks.{Asks}
use Rattle.gql_collect.specs.declared.asks.Asks.TheVariants as asks
use Rattle.gql_meaning.specs.Completion.{outcome_at}
use Rattle.gql_meaning.specs.Outcomes.{absent_outcome, typename_outcome}
use Rattle.gql_place.specs.Filled.{Outcome}
use Rattle.gql_resolve.specs.Call.{Call}
use Rattle.gql_resolve.specs.declared.answer.Answer.{Answer}
use Rattle.gql_resolve.specs.declared.field_value.FieldValue.{FieldValue}

-- what is asked comes to this, with these answers: the object's name, nothing, or what the answer
-- comes to at its type
abbrev pub outcome_by : {V : Type 0} → Bool → Execution → (Call V → Answer V) → List ℕ
    → FieldValue V → Asks → Outcome (List ℕ) (FieldValue V)
outcome_by is_root execution answer object parent asks.Typename = typename_outcome object
outcome_by is_root execution answer object parent asks.Nothing = absent_outcome
outcome_by is_root execution answer object parent (asks.Call resolver ty arguments) =
    outcome_at execution.schema.table ty
    (answer (record {
      is_root = is_root;
      resolver = resolver;
      parent = parent;
      arguments = arguments;
      layers = execution.layers;
    }))
