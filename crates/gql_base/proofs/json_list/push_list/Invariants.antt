use Rattle.std.proofs.Common.{◌≡◌, ◌++◌, map, take, string_bytes, codes}
use Rattle.gql_base.specs.Separated.{separated}
use Rattle.gql_base.proofs.json_list.push_list.Given as goal

abbrev pub invariant-loop-place : goal.invariant-loop-place
invariant-loop-place g l =
    string_bytes l.out ≡ string_bytes l.initial.out ++ separated (codes ",") (map g.T.JsonText.text (take l.place l.items))
