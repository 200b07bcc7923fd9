use Rattle.std.proofs.Common.{codes, sym, ◌∙◌}
use Rattle.std.proofs.lemmas.Result.{on_ok_weaker}
use Rattle.gql_base.specs.ErrorJson.{list_json, location_json, locations_member}
use Rattle.gql_base.proofs.ErrorJsonLemmas.{locations-there, two-appended}
use Rattle.gql_base.proofs.error_json.push_locations.Goals as goal

pub returns : goal.returns
returns c =
    let there = locations-there c.args.locations.now (sym c.is_empty.ensures ∙ c.if-is_empty.false) in
    on_ok_weaker c.push_list.result
    (λ last. two-appended _ _ _ (codes ",\"locations\":") (list_json location_json c.args.locations.now) (locations_member c.args.locations.now) c.in_ok-push_str.ensures.bytes last there)
    c.push_list.ensures
