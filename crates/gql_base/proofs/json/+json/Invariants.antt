use Rattle.std.proofs.Common.{◌≡◌, ◌++◌, map, take, string_bytes}
use Rattle.gql_base.specs.Json.{member, comma_of, value_text}
use Rattle.gql_base.specs.Separated.{separated}
use Rattle.gql_base.proofs.json.+json.Given as goal

abbrev pub invariant-push_items-loop-place : goal.invariant-push_items-loop-place
invariant-push_items-loop-place l =
    string_bytes l.out ≡ string_bytes l.initial.out ++ separated (comma_of l.style) (map (value_text l.style) (take l.place l.items))

abbrev pub invariant-push_members-loop-place : goal.invariant-push_members-loop-place
invariant-push_members-loop-place l =
    string_bytes l.out
    ≡ string_bytes l.initial.out
    ++ separated (comma_of l.style) (map (λ p. member l.style (p.0, value_text l.style p.1)) (take l.place l.members))
