use Rattle.std.proofs.Common.{◌≡◌, ◌++◌, take}
use Rattle.std.specs.List.{flat_map}
use Rattle.gql_fields.specs.Walk.{terms_in}
use Rattle.gql_rules.specs.AlikeOperations.{told_listed}
use Rattle.gql_rules.proofs.reached_uses.tell_operations.Given as goal

abbrev pub invariant-loop-listed : goal.invariant-loop-listed
invariant-loop-listed l =
    l.found ≡ l.initial.found ++ flat_map (told_listed l.against.built.now (terms_in l.against)) (take l.listed-index l.operations)
