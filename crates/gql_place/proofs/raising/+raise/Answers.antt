use Rattle.std.proofs.Common.{Some, option_map, ap, sym, ◌∙◌, arith}
use Rattle.gql_place.proofs.RaisingLemmas.{members_raised, values_long}
use Rattle.gql_place.proofs.WeightLemmas.{object_weighs, tree_weight}
use Rattle.gql_place.proofs.raising.+raise.Goals as goal

pub tree_value-member_values-requires : goal.tree_value-member_values-requires
tree_value-member_values-requires t c =
    (omega (arith, object_weighs c.in-Object.members, ap tree_weight c.in-Object.is, c.decreases), tt)

pub member_values-from_parts-requires : goal.member_values-from_parts-requires
member_values-from_parts-requires t c =
    values_long c.args.members _ _ c.in-Some.values.items c.into_parts-names.ensures.names c.into_parts-names.ensures.values
    (ap (option_map (λ v. v.items)) (sym c.in-Some.is) ∙ c.in_ok-values.ensures)

pub member_values-returns-in-None : goal.member_values-returns-in-None
member_values-returns-in-None t c =
    members_raised c.args.members _ _ _ c.into_parts-names.ensures.names c.into_parts-names.ensures.values
    (ap (option_map (λ v. v.items)) (sym c.in-None.is) ∙ c.in_ok-values.ensures)

pub member_values-returns-in-Some : goal.member_values-returns-in-Some
member_values-returns-in-Some t c =
    ap Some c.from_parts.ensures
    ∙ members_raised c.args.members _ _ _ c.into_parts-names.ensures.names c.into_parts-names.ensures.values
    (ap (option_map (λ v. v.items)) (sym c.in-Some.is) ∙ c.in_ok-values.ensures)
