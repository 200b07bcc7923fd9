use Rattle.std.proofs.Common.{◌≡◌, true, take}
use Rattle.std.specs.List.{list_all}
use Rattle.gql_select.specs.Kept.{allows}
use Rattle.gql_admit.specs.KnownVariables.{known_by}
use Rattle.gql_admit.proofs.conditions.Known.keeps.Given as goal

abbrev pub invariant-loop-directive : goal.invariant-loop-directive
invariant-loop-directive l = list_all (λ directive. allows (known_by l.self) directive.node) (take l.directive-index l.directives) ≡ true
