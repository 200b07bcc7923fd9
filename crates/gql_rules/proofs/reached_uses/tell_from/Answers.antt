use Rattle.std.proofs.Common.{◌≡◌, ◌++◌, List, map, ap, sym, subst, ◌∙◌}
use Rattle.std.specs.List.{flat_map}
use Rattle.gql_doc.specs.declared.document.Positioned.{Positioned}
use Rattle.gql_doc.specs.declared.document.VariableDefinition.{VariableDefinition}
use Rattle.gql_fields.specs.Walk.{terms_in}
use Rattle.gql_fields.specs.UsePlaceViews.{shown}
use Rattle.gql_rules.specs.AlikeOperations.{definitions_of}
use Rattle.gql_rules.specs.Reaching.{AreReached}
use Rattle.gql_rules.specs.ReachedUses.{uses_told_in}
use Rattle.gql_rules.proofs.UseLemmas.{graph_inside, none_spread, reached_below, spread_told, starts_below}
use Rattle.gql_rules.proofs.reached_uses.tell_from.Goals as goal

pub reached_from-requires-clause-starts : goal.reached_from-requires-clause-starts
reached_from-requires-clause-starts c =
    starts_below (terms_in c.args.against.now) c.args.against.now.fragments.now c.args.spread.now c.requires.spread c.args.starts.now
    c.requires.starts

pub reached_from-requires-clause-within : goal.reached_from-requires-clause-within
reached_from-requires-clause-within c = graph_inside (terms_in c.args.against.now) c.args.against.now.fragments.now c.args.spread.now
    c.requires.spread

pub tell_reached-requires : goal.tell_reached-requires
tell_reached-requires c =
    reached_below (terms_in c.args.against.now) c.args.against.now.fragments.now c.args.spread.now c.requires.spread c.args.starts.now
    c.as_slice.result.now
    c.requires.starts (subst (AreReached c.args.spread.now.graph.now c.args.starts.now) (sym c.as_slice.ensures) c.in_ok-reached.ensures)

pub returns-then-is_empty : goal.returns-then-is_empty
returns-then-is_empty c =
    none_spread (terms_in c.args.against.now) c.args.against.now.fragments.now (definitions_of c.args.listed.now) c.args.starts.now
    c.is_empty.result c.args.found.now c.is_empty.ensures c.if-is_empty.true

pub returns : goal.returns
returns c =
    let terms = terms_in c.args.against.now in
    let built = c.args.against.now.built.now in
    let lists = map shown c.args.spread.now.places.now in
    let reached = c.as_slice.result.now in
    let defined : c.new-defined.result ≡ definitions_of c.args.listed.now = c.new-defined.ensures ∙ c.as_slice-definitions.ensures in
    spread_told terms c.args.against.now.fragments.now (definitions_of c.args.listed.now) built lists c.args.spread.now.graph.now
    c.args.starts.now reached
    c.args.found.now c.tell_reached.new.found c.requires.built c.requires.spread.places c.requires.spread.graph
    (subst (AreReached c.args.spread.now.graph.now c.args.starts.now) (sym c.as_slice.ensures) c.in_ok-reached.ensures)
    (c.in_ok-tell_reached.ensures
    ∙ ap (λ (ds : List (Positioned VariableDefinition)). c.args.found.now ++ flat_map (uses_told_in built terms ds lists) reached) defined)
