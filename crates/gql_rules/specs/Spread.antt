-- The places of fragments that matter to the uses of variables, and which fragments are spread
-- there.
use Rattle.std.specs.Prelude.{◌≡◌, map}
use Rattle.gql_base.specs.Pairs.{values_of}
use Rattle.gql_doc.specs.Depth.{Fragments}
use Rattle.gql_fields.specs.Places.{fragment_places}
use Rattle.gql_fields.specs.Terms.{Terms}
use Rattle.gql_fields.specs.UsePlaceViews.{shown}
use Rattle.gql_fields.specs.UsePlaces.{kept}
use Rattle.gql_rules.specs.ReachedUses.{place_graph}
use Rattle.gql_rules.specs.declared.spread.Spread.{Spread}

-- what is kept of them shows these places of a document, and their graph
pub record IsSpread (terms : Terms) (fragments : Fragments) (spread : Spread) : Type 0 where
  pub places : map shown spread.places.now
      ≡ map (λ fragment. kept (fragment_places terms fragment)) (values_of fragments)
  pub graph : spread.graph.now ≡ place_graph terms fragments
