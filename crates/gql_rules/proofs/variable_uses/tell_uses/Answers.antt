use Rattle.std.proofs.Common.{arith, ◌++◌, List, ap, sym, ◌∙◌}
use Rattle.std.proofs.lemmas.List.{take_all}
use Rattle.std.specs.List.{flat_map}
use Rattle.gql_fields.specs.Walk.{terms_in}
use Rattle.gql_fields.specs.declared.breach.Breach.{Breach}
use Rattle.gql_fields.proofs.ToldLemmas.{flat_of_map}
use Rattle.gql_fields.specs.UsePlaceViews.{place_behind}
use Rattle.gql_rules.specs.VariableUses.{uses_told_at}
use Rattle.gql_fields.specs.declared.use_place.UsePlace.{UsePlace}
use Rattle.gql_rules.proofs.variable_uses.tell_uses.Goals as goal

pub returns : goal.returns
returns c =
    let tells = uses_told_at c.args.against.now.built.now (terms_in c.args.against.now) c.args.defined.now in
    let places = c.args.places.now in
    c.loop-place.invariant
    ∙ ap (λ (ps : List UsePlace). c.args.found.now ++ flat_map (λ (p : UsePlace). tells (place_behind p)) ps) (take_all c.loop-place.place-index places (omega arith))
    ∙ ap (λ (told : List Breach). c.args.found.now ++ told) (sym (flat_of_map tells place_behind places))
