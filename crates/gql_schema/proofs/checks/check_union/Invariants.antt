use Rattle.std.proofs.Common.{◌≡◌, None, take}
use Rattle.gql_schema.specs.Faults.{member_fault}
use Rattle.gql_schema.specs.Union.{members_of}
use Rattle.gql_lists.specs.First.{first_found}
use Rattle.gql_schema.specs.Table.{types_of}
use Rattle.gql_schema.proofs.checks.check_union.Given as goal

abbrev pub invariant-loop-place : goal.invariant-loop-place
invariant-loop-place l = first_found (member_fault (types_of l.types) l.union_type) (take l.place (members_of l.union_type)) ≡ None
