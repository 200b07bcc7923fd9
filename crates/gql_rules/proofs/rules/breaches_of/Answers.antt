use Rattle.std.proofs.Common.{◌≡◌, ◌++◌, map, ap, sym, subst, ◌∙◌}
use Rattle.std.specs.Option.{option_copied}
use Rattle.gql_base.specs.Pairs.{values_of}
use Rattle.gql_doc.specs.Depth.{operations_in}
use Rattle.gql_fields.specs.Places.{document_places, fragment_places}
use Rattle.gql_fields.specs.UsePlaceViews.{shown}
use Rattle.gql_fields.specs.UsePlaces.{kept}
use Rattle.gql_fields.specs.Walk.{tells, terms_in}
use Rattle.gql_rules.specs.Adds.{Adds}
use Rattle.gql_rules.specs.Asked.{asking}
use Rattle.gql_rules.specs.ReachedUses.{WrongUseIn}
use Rattle.gql_rules.proofs.BreachLemmas.{all_listed}
use Rattle.gql_rules.proofs.ListedOperations.{each_listed, operations_listed}
use Rattle.gql_rules.proofs.rules.breaches_of.Goals as goal

pub tell_wrong_uses-requires-clause-operations : goal.tell_wrong_uses-requires-clause-operations
tell_wrong_uses-requires-clause-operations c =
    each_listed (terms_in c.args.against) c.in_ok-listed.listed.operations (operations_in c.args.doc.now.operations) c.in_ok-listed.ensures.operations

pub tell_wrong_uses-requires-clause-fragments : goal.tell_wrong_uses-requires-clause-fragments
tell_wrong_uses-requires-clause-fragments c =
    subst (λ fs. map shown c.in_ok-listed.listed.fragments ≡ map (λ fragment. kept (fragment_places (terms_in c.args.against) fragment)) (values_of fs))
    (sym c.requires.fragments) c.in_ok-listed.ensures.fragments

pub returns : goal.returns
returns c =
    let terms = terms_in c.args.against in
    all_listed c.args.against (asking c.args.variables.now (option_copied c.args.name)) c.args.doc.now c.walk_document.new.found
    c.tell_variables.new.found c.tell_wrong_uses.new.found c.tell_circular.new.found c.tell_conflicts.new.found c.sorted_once.result
    c.sorted_once.ensures
    (c.in_ok-listed.ensures.found
    ∙ ap (λ xs. xs ++ tells c.args.against (document_places terms c.args.doc.now)) c.new-found.ensures)
    c.in_ok-tell_variables.ensures c.requires.fragments c.requires.built
    (subst (λ os. Adds (WrongUseIn terms c.args.against.fragments.now os) c.tell_variables.new.found c.tell_wrong_uses.new.found)
    (operations_listed terms c.in_ok-listed.listed.operations (operations_in c.args.doc.now.operations) c.in_ok-listed.ensures.operations)
    c.in_ok-tell_wrong_uses.ensures)
    c.in_ok-tell_circular.ensures c.in_ok-tell_conflicts.ensures
