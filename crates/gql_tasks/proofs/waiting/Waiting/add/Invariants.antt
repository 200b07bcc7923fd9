use Rattle.std.proofs.Common.{◌≡◌, ◌-◌, ◌≤◌, ◌++◌}
use Rattle.gql_tasks.specs.Waiting.{numbers_between}
use Rattle.gql_tasks.proofs.waiting.Waiting.add.Given as goal

abbrev pub invariant-loop-next : goal.invariant-loop-next
invariant-loop-next l = record {
  all : l.self ≡ l.initial.self ++ numbers_between l.first l.next;
  from_first : l.first ≤ l.next;
  within : l.next ≤ l.end;
}

abbrev pub decreases-loop-next : goal.decreases-loop-next
decreases-loop-next l = l.end - l.next
