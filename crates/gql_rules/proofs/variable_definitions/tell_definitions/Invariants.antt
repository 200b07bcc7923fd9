use Rattle.std.proofs.Common.{◌≡◌, ◌++◌, map, take}
use Rattle.std.specs.Option.{option_copied}
use Rattle.gql_fields.specs.Walk.{terms_in}
use Rattle.gql_fields.specs.GivenNames.{AreNames}
use Rattle.gql_rules.specs.VariableDefinitions.{definition_name, told_of_definitions}
use Rattle.gql_rules.proofs.variable_definitions.tell_definitions.Given as goal

abbrev pub invariant-loop-definition : goal.invariant-loop-definition
invariant-loop-definition l = record {
  found : l.found ≡ l.initial.found ++ told_of_definitions (terms_in l.against).table (option_copied l.given) (take l.definition-index l.definitions);
  before : AreNames (map definition_name (take l.definition-index l.definitions)) l.before;
}
