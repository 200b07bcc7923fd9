use Rattle.std.proofs.Common.{◌≡◌, ◌+◌, ◌-◌, ◌≤◌, ◌++◌, vec_len, vec_capacity}
use Rattle.gql_tasks.specs.Arena.{fresh_states}
use Rattle.gql_tasks.proofs.settling.make_tasks.Given as goal

abbrev pub invariant-loop-i : goal.invariant-loop-i
invariant-loop-i g l = record {
  states : l.arena.states.items ≡ l.initial.arena.states.items ++ fresh_states l.i;
  waits : l.arena.waiting ≡ l.initial.arena.waiting;
  room : vec_len l.arena.states + (l.initial.count - l.i) ≤ vec_capacity l.arena.states;
}
