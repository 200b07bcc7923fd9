use Rattle.gql_fields.specs.Walk.{terms_in}
use Rattle.gql_rules.specs.Adds.{Adds}
use Rattle.gql_rules.specs.AlikeOperations.{WrongBefore}
use Rattle.gql_rules.proofs.reached_uses.tell_spread.Given as goal

abbrev pub invariant-loop-place : goal.invariant-loop-place
invariant-loop-place l = Adds (WrongBefore (terms_in l.against) l.against.fragments.now l.operations l.starts l.place) l.initial.found
    l.found
