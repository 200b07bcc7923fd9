use Rattle.std.proofs.Common.{◌≡◌, map, take}
use Rattle.gql_rules.specs.RulesChecked.{error_of}
use Rattle.gql_rules.proofs.rules.errors_of.Given as goal

abbrev pub invariant-loop-breach : goal.invariant-loop-breach
invariant-loop-breach l = l.errors ≡ map error_of (take l.breach-index l.breaches)
