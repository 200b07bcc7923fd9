use Rattle.std.proofs.Common.{◌≡◌, ◌++◌, length, map, refl, ap, sym, subst, ◌∙◌}
use Rattle.std.specs.List.{flat_map}
use Rattle.gql_base.specs.Pairs.{names_of}
use Rattle.gql_fields.specs.UsePlaceViews.{listed_behind, listed_of, operation_behind, shown}
use Rattle.gql_fields.specs.Walk.{terms_in}
use Rattle.gql_rules.specs.Adds.{Adds}
use Rattle.gql_rules.specs.AlikeOperations.{AreGathered, WrongBefore, told_listed}
use Rattle.gql_rules.specs.ReachedUses.{WrongUseIn}
use Rattle.gql_rules.proofs.GatheringLemmas.{uses_gathered}
use Rattle.gql_rules.proofs.UseLemmas.{spread_made}
use Rattle.gql_rules.proofs.reached_uses.tell_wrong_uses.Goals as goal

pub tell_spread-requires-clause-spread : goal.tell_spread-requires-clause-spread
tell_spread-requires-clause-spread c =
    spread_made (terms_in c.args.against.now) c.args.against.now.fragments.now _ c.as_slice-lists.result.now c.in_ok-graph.graph
    (ap (map shown) c.as_slice-lists.ensures ∙ c.requires.fragments) c.in_ok-graph.ensures refl c.as_slice.ensures

pub tell_spread-requires-clause-starts : goal.tell_spread-requires-clause-starts
tell_spread-requires-clause-starts c =
    let operations = c.as_slice-operations.result.now in
    subst (AreGathered (names_of c.args.against.now.fragments.now) operations (length operations)) (sym c.as_slice-2.ensures)
    c.in_ok-starts.ensures

pub returns : goal.returns
returns c =
    let terms = terms_in c.args.against.now in
    let fragments = c.args.against.now.fragments.now in
    let operations = c.as_slice-operations.result.now in
    let listed : map listed_behind operations ≡ map (listed_of terms) (map operation_behind operations)
    = subst (λ os. map listed_behind os ≡ map (listed_of terms) (map operation_behind os)) (sym c.as_slice-operations.ensures)
    c.requires.operations in
    let told : c.tell_operations.new.found ≡ c.args.found.now ++ flat_map (told_listed c.args.against.now.built.now terms) operations
    = c.in_ok-tell_operations.ensures in
    let told_built = told ∙ ap (λ built. c.args.found.now ++ flat_map (told_listed built terms) operations) c.requires.built in
    subst (λ os. Adds (WrongUseIn terms fragments (map operation_behind os)) c.args.found.now c.tell_spread.new.found)
    c.as_slice-operations.ensures
    (uses_gathered terms fragments operations c.in_ok-starts.starts c.args.found.now c.tell_operations.new.found c.tell_spread.new.found
    listed
    c.in_ok-starts.ensures told_built
    (subst (λ ks. Adds (WrongBefore terms fragments operations ks (length operations)) c.tell_operations.new.found c.tell_spread.new.found)
    c.as_slice-2.ensures
    c.in_ok-tell_spread.ensures))
