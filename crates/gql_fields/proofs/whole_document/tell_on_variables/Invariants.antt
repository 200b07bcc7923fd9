use Rattle.std.proofs.Common.{◌≡◌, ◌++◌, take}
use Rattle.gql_fields.specs.Places.{variable_places}
use Rattle.gql_fields.specs.Walk.{tells}
use Rattle.gql_fields.proofs.whole_document.tell_on_variables.Given as goal

abbrev pub invariant-loop-variable : goal.invariant-loop-variable
invariant-loop-variable l =
    l.found ≡ l.initial.found ++ tells l.against (variable_places (take l.variable-index l.variables))
