use Rattle.std.proofs.Common.{◌≡◌, ◌++◌, string_bytes}
use Rattle.std.specs.List.{flat_map}
use Rattle.std.proofs.Math.Utf8.{encodes}
use Rattle.gql_base.specs.Json.{escaped}
use Rattle.gql_base.proofs.json.push_characters.Given as goal

abbrev pub invariant-loop-character : goal.invariant-loop-character
invariant-loop-character l = string_bytes l.out ≡ string_bytes l.initial.out ++ flat_map escaped (encodes l.yielded)
