use Rattle.std.proofs.Common.{◌≡◌, ◌++◌, map, take}
use Rattle.gql_fields.specs.ArgumentViews.{bearing_behind, table_behind}
use Rattle.gql_fields.specs.Arguments.{argument_name, told_of_given}
use Rattle.gql_fields.specs.GivenNames.{AreNames}
use Rattle.gql_fields.proofs.arguments.tell_given.Given as goal

abbrev pub invariant-loop-argument : goal.invariant-loop-argument
invariant-loop-argument l = record {
  found : l.found ≡ l.initial.found ++ told_of_given (table_behind l.bearing) (bearing_behind l.bearing)
      (take l.argument-index l.arguments);
  given : AreNames (map argument_name (take l.argument-index l.arguments)) l.given;
}
