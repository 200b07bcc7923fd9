use Rattle.std.proofs.Common.{◌≡◌, true, take}
use Rattle.std.specs.List.{list_all}
use Rattle.gql_schema.specs.Faults.{is_spare}
use Rattle.gql_schema.proofs.promises.has_only_optional.Given as goal

abbrev pub invariant-loop-place : goal.invariant-loop-place
invariant-loop-place l = list_all (is_spare l.promised) (take l.place l.arguments) ≡ true
