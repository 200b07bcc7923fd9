use Rattle.std.proofs.Common.{◌≡◌, ◌++◌, take}
use Rattle.gql_fields.specs.Walk.{terms_in}
use Rattle.gql_rules.specs.VariableUses.{told_in_arguments}
use Rattle.gql_rules.proofs.variable_uses.tell_in_arguments.Given as goal

abbrev pub invariant-loop-argument : goal.invariant-loop-argument
invariant-loop-argument l =
    l.found
    ≡ l.initial.found ++ told_in_arguments (terms_in l.against).table l.defined l.declared (take l.argument-index l.arguments)
