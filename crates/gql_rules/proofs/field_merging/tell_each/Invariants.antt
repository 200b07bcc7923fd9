use Rattle.std.proofs.Common.{◌≡◌, ◌++◌, take, map}
use Rattle.gql_rules.specs.FieldMerging.{conflict_breach}
use Rattle.gql_rules.proofs.field_merging.tell_each.Given as goal

abbrev pub invariant-loop-conflict : goal.invariant-loop-conflict
invariant-loop-conflict l = l.found ≡ l.initial.found ++ map conflict_breach (take l.conflict-index l.conflicts)
