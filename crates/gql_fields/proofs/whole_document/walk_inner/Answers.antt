use Rattle.std.proofs.Common.{sym, ◌∙◌, ◌++◌}
use Rattle.gql_fields.specs.Places.{on_named, set_places}
use Rattle.gql_fields.specs.UsePlaceViews.{shown}
use Rattle.gql_fields.specs.UsePlaces.{kept}
use Rattle.gql_fields.specs.Walk.{terms_in}
use Rattle.gql_fields.proofs.KeptLemmas.{kept_fragment}
use Rattle.gql_fields.proofs.whole_document.walk_inner.Goals as goal

pub returns-clause-listed : goal.returns-clause-listed
returns-clause-listed c =
    let terms = terms_in c.args.against.now in
    let inner = set_places terms c.args.fragment.now.node.selection_set.node in
    c.in_ok-walk_named.ensures.places
    ∙ (λ i. shown (c.new-places.ensures i) ++ kept (on_named terms (c.as_str-condition.ensures i) inner))
    ∙ sym (kept_fragment terms c.args.fragment.now)
