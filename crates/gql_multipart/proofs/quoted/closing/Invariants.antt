use Rattle.std.proofs.Common.{◌≡◌, ◌+◌, false, drop}
use Rattle.std.specs.Option.{option_map}
use Rattle.gql_multipart.specs.Quoted.{closing}
use Rattle.gql_multipart.proofs.quoted.closing.Given as goal

abbrev pub invariant-loop-place : goal.invariant-loop-place
invariant-loop-place l =
    option_map (λ n. n + l.place) (closing l.escaped (drop l.place l.text)) ≡ closing false l.text
