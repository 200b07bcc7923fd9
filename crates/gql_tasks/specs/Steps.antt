-- Steps: one for each start of a resolver that gave a value or a future.
use Rattle.std.specs.Prelude.{ℕ, ◌≡◌, ◌+◌, List, Option, length}
use Rattle.gql_resolve.specs.Record.{with_more}

-- where a set tells the tasks that it began, as many steps were taken as tasks began
pub record IsCounted (begun begun' : Option (List ℕ)) (steps steps' : ℕ) : Type 0 where
  pub started : List ℕ
  pub begun_is : begun' ≡ with_more begun started
  pub steps_is : steps' ≡ steps + length started
