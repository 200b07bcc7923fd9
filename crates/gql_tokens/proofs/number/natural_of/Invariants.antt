use Rattle.std.proofs.Common.{◌≡◌, ◌<◌, ◌^◌, take}
use Rattle.gql_tokens.specs.Number.{natural_of}
use Rattle.gql_tokens.proofs.number.natural_of.Given as goal

abbrev pub invariant-loop-digit : goal.invariant-loop-digit
invariant-loop-digit l = record { exact : l.number ≡ natural_of (take l.digit-index l.digits); small : l.number < 2 ^ 64 }
