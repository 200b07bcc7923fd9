-- What a task is given.
use Rattle.std.specs.Prelude.{List, []}
use Rattle.gql_resolve.specs.declared.answer.Answer.{Answer}
use Rattle.gql_tasks.specs.declared.given.Given.{Given}
use Rattle.gql_tasks.specs.declared.given.Given.TheVariants.{Answered, Put}

module _ {V : Type 0} where
  -- the tasks under what a task is given: only an answer has some
  abbrev pub beneath_given : {Task : Type 0} → (Task → Answer V → List Task) → Task → Given V
      → List Task
  beneath_given beneath task (Answered answer) = beneath task answer
  beneath_given beneath task (Put put) = []
