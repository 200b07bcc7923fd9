use Rattle.std.proofs.Common.{◌≡◌, ◌++◌, map, drop, option_map}
use Rattle.std.specs.Option.{option_to_list}
use Rattle.serde_json.specs.View.{view}
use Rattle.gql_form.specs.Read.{present}
use Rattle.gql_form.proofs.kit.only_present.Given as goal

abbrev pub invariant-loop-name : goal.invariant-loop-name
invariant-loop-name l =
    present (map (λ n. n.now) l.names) (view l.json)
    ≡ option_to_list (option_map (λ n. n.now) l.found) ++ present (map (λ n. n.now) (drop l.name-index l.names)) (view l.json)
