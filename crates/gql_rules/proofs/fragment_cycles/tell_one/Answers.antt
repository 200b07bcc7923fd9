use Rattle.std.proofs.Common.{arith, ◌≡◌, ◌++◌, [], ◌∷◌, false, get_or, refl}
use Rattle.std.proofs.lemmas.Option.{slice_get-get_or}
use Rattle.gql_fields.proofs.ToldLemmas.{on_ok}
use Rattle.gql_rules.specs.Adds.{Adds}
use Rattle.gql_rules.specs.FragmentCycles.{CircularAt}
use Rattle.gql_rules.specs.FragmentSpreads.{graph_of}
use Rattle.gql_rules.proofs.CycleLemmas.{none_told, one_told}
use Rattle.gql_rules.proofs.fragment_cycles.tell_one.Goals as goal

pub returns-then-not-circular-place : goal.returns-then-not-circular-place
returns-then-not-circular-place c =
    let circular = c.args.circular.now in
    let place = c.args.place in
    let mark = get_or circular place false in
    none_told c.args.fragments.now place c.args.found.now mark (graph_of c.args.fragments.now) refl
    (c.requires.circular.told place mark (slice_get-get_or circular place false (omega (
      arith,
      c.requires.inside,
      c.requires.circular.long,
    ))))
    c.if-not-circular-place.true

pub returns : goal.returns
returns c =
    let circular = c.args.circular.now in
    let place = c.args.place in
    let mark = get_or circular place false in
    on_ok c.push.result (c.push.new.self ≡ c.args.found.now ++ c.in_ok-circular_fragment.field-0 ∷ [])
    (Adds (CircularAt c.args.fragments.now c.args.place) c.args.found.now c.push.new.self)
    (λ added.
    one_told c.args.fragments.now place c.at.result.0.now c.at.result.1.now c.args.found.now c.push.new.self
    c.in_ok-circular_fragment.field-0
    mark (graph_of c.args.fragments.now) c.at.ensures refl
    (c.requires.circular.told place mark (slice_get-get_or circular place false (omega (
      arith,
      c.requires.inside,
      c.requires.circular.long,
    ))))
    c.if-not-circular-place.false c.in_ok-circular_fragment.ensures added)
    c.push.ensures.ok
