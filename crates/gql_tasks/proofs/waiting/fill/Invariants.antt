use Rattle.std.proofs.Common.{◌≡◌, ◌+◌, ◌-◌, ◌≤◌, ◌++◌, deque_len, deque_capacity}
use Rattle.gql_tasks.specs.Waiting.{numbers_between}
use Rattle.gql_tasks.proofs.waiting.fill.Given as goal

abbrev pub invariant-loop-number : goal.invariant-loop-number
invariant-loop-number l = record {
  items : l.block.items ≡ l.initial.block.items ++ numbers_between l.next l.number;
  room : deque_len l.block + (l.stop - l.number) ≤ deque_capacity l.block;
}
