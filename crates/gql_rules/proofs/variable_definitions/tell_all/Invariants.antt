use Rattle.std.proofs.Common.{◌≡◌, ◌++◌, None, take}
use Rattle.std.specs.List.{flat_map}
use Rattle.gql_base.specs.Pairs.{values_of}
use Rattle.gql_fields.specs.Walk.{terms_in}
use Rattle.gql_rules.specs.VariableDefinitions.{told_of_operation}
use Rattle.gql_rules.proofs.variable_definitions.tell_all.Given as goal

abbrev pub invariant-loop-place : goal.invariant-loop-place
invariant-loop-place l =
    l.found ≡ l.initial.found ++ flat_map (told_of_operation (terms_in l.against) None) (take l.place (values_of l.operations))
