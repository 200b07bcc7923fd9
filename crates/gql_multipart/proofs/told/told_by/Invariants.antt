use Rattle.std.proofs.Common.{length}
use Rattle.std.specs.Option.{option_map}
use Rattle.gql_multipart.proofs.TellingLemmas.{IsGoing}
use Rattle.gql_multipart.specs.Parameter.{parameters_in}
use Rattle.gql_multipart.specs.Told.{told_of}
use Rattle.gql_multipart.proofs.told.told_by.Given as goal

abbrev pub invariant-loop-rest : goal.invariant-loop-rest
invariant-loop-rest l =
    IsGoing l.told l.rest (option_map told_of (parameters_in (length l.text) l.text))

abbrev pub decreases-loop-rest : goal.decreases-loop-rest
decreases-loop-rest l = length l.rest
