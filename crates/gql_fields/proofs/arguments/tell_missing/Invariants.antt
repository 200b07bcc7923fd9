use Rattle.std.proofs.Common.{◌≡◌, ◌++◌, take}
use Rattle.std.specs.List.{flat_map}
use Rattle.gql_fields.specs.ArgumentViews.{bearing_behind}
use Rattle.gql_fields.specs.Arguments.{told_of_missing}
use Rattle.gql_fields.proofs.arguments.tell_missing.Given as goal

abbrev pub invariant-loop-place : goal.invariant-loop-place
invariant-loop-place l =
    l.found ≡ l.initial.found ++ flat_map (told_of_missing (bearing_behind l.bearing) l.given) (take l.place l.bearing.declared.now)
