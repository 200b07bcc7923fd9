use Rattle.std.proofs.Common.{arith, ap, sym, ◌∙◌}
use Rattle.std.proofs.lemmas.List.{take_all}
use Rattle.std.specs.List.{flat_map}
use Rattle.gql_base.specs.Pairs.{names_of}
use Rattle.gql_fields.proofs.ToldLemmas.{flat_of_map}
use Rattle.gql_fields.specs.UsePlaceViews.{place_behind}
use Rattle.gql_rules.specs.ReachedUses.{spread_at}
use Rattle.gql_fields.specs.declared.use_place.UsePlace.{UsePlace}
use Rattle.gql_rules.proofs.reached_uses.spreads_in.Goals as goal

pub returns : goal.returns
returns c =
    let names = names_of c.args.fragments.now in
    let places = c.args.places.now in
    c.loop-place.invariant
    ∙ ap (flat_map (λ (p : UsePlace). spread_at names (place_behind p))) (take_all c.loop-place.place-index places (omega arith))
    ∙ sym (flat_of_map (spread_at names) place_behind places)
