-- What is told of definitions of variables, by the names that were kept of those before.
use Rattle.std.proofs.Common.{◌≡◌, ℕ, List, ap}
use Rattle.gql_doc.specs.declared.document.Positioned.{Positioned}
use Rattle.gql_doc.specs.declared.document.VariableDefinition.{VariableDefinition}
use Rattle.gql_schema.specs.TableReading.{TypeTable}
use Rattle.gql_fields.specs.GivenNames.{AreNames}
use Rattle.gql_rules.specs.VariableDefinitions.{Given, definition_name, fault_of, told_of_definition, told_of_fault}

-- what is told of a definition behind names that were kept
pub told_kept : (table : TypeTable) (given : Given) (names kept : List (List ℕ)) (definition : Positioned VariableDefinition) → AreNames names kept
    → told_of_definition table given kept definition ≡ told_of_definition table given names definition
told_kept table given names kept definition are =
    ap (λ seen. told_of_fault definition (fault_of table given seen definition.node)) (are.same (definition_name definition))
