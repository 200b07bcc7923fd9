use Rattle.gql_tasks_tests.proofs.NumberLemmas.{bare_nests}
use Rattle.gql_tasks_tests.proofs.ground.Ground.new.Goals as goal

pub invariant_of-result : goal.invariant_of-result
invariant_of-result c = record { nests = bare_nests c.in_ok-env.env _ c.in_ok-env.ensures.levels c.in_ok-field.ensures }
