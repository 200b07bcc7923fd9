use Rattle.std.proofs.Common.{◌≡◌, drop}
use Rattle.gql_conflicts.specs.Marks.{mark_from, mixed_with}
use Rattle.gql_conflicts.proofs.marks.mark_from.Given as goal

abbrev pub invariant-loop-byte : goal.invariant-loop-byte
invariant-loop-byte l = mixed_with l.mark (drop l.byte-index l.bytes) ≡ mark_from l.start l.bytes
