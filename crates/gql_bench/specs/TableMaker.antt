-- How a resolver set serves that is made for a bench.
use Rattle.std.specs.Prelude.{◌≡◌, ℕ, ℤ, List}
use Rattle.gql_tasks.specs.Phases.{Serving}
use Rattle.gql_resolve.specs.Call.{Call}
use Rattle.gql_bench.specs.Table.{table_answer, table_delay, table_effect}
use Rattle.gql_bench.specs.declared.rule.Rule.{Rule}

-- in each world of cells the answers and the effects are those of the rules, and so are the delays
pub record ServesBy (rules : List Rule) (serving : Serving ℤ (List ℤ)) : Type 0 where
  pub answers : (call : Call ℤ) (cells : List ℤ)
      → serving.answer call cells ≡ table_answer rules call cells
  pub effects : (call : Call ℤ) (cells : List ℤ)
      → serving.effect call cells ≡ table_effect rules call cells
  pub delays : (resolver : ℕ) → serving.delay resolver ≡ table_delay rules resolver
