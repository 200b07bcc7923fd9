use Rattle.std.proofs.Common.{◌≡◌, map, take}
use Rattle.gql_bench.specs.Outcome.{plain_error}
use Rattle.gql_bench.proofs.answering.errors_of.Given as goal

abbrev pub invariant-loop-message : goal.invariant-loop-message
invariant-loop-message l = l.errors ≡ map plain_error (take l.message-index l.messages)
