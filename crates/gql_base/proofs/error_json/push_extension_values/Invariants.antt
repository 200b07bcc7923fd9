use Rattle.std.proofs.Common.{◌≡◌, ◌++◌, map, take, string_bytes, codes}
use Rattle.gql_base.specs.Json.{member, value_text}
use Rattle.gql_base.specs.Separated.{separated}
use Rattle.gql_base.specs.declared.json.Style.TheVariants.{Json}
use Rattle.gql_base.proofs.error_json.push_extension_values.Given as goal

abbrev pub invariant-loop-place : goal.invariant-loop-place
invariant-loop-place l =
    string_bytes l.out
    ≡ string_bytes l.initial.out ++ separated (codes ",") (map (λ p. member Json (p.0, value_text Json p.1)) (take l.place l.values))
