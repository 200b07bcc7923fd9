use Rattle.std.proofs.Common.{◌≡◌, ◌++◌, take}
use Rattle.gql_fields.specs.Places.{directive_places}
use Rattle.gql_fields.specs.Walk.{tells}
use Rattle.gql_fields.proofs.selections.tell_directives.Given as goal

abbrev pub invariant-loop-directive : goal.invariant-loop-directive
invariant-loop-directive l =
    l.found ≡ l.initial.found ++ tells l.against (directive_places l.selects (take l.directive-index l.directives))
