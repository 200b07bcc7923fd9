use Rattle.std.proofs.Common.{◌≡◌, ◌∙◌, ap, arith, slice_get, Some}
use Rattle.std.proofs.lemmas.Option.{slice_get-get_or, get_or_from_slice_get}
use Rattle.gql_request.specs.KeyTree.{end_of, link_at}
use Rattle.gql_request.proofs.KeyTreeLemmas.{found_here, found_nowhere, leads_on, finds_on, ends_here}
use Rattle.gql_request.proofs.key_tree.+sought_from.Goals as goal

pub returns-then-keys-place : goal.returns-then-keys-place
returns-then-keys-place t c =
    let here : slice_get c.args.keys.now c.args.place ≡ Some c.args.key =
    slice_get-get_or c.args.keys.now c.args.place 0 c.requires.within ∙ ap (λ k. Some k) c.if-keys-place.true in
    (found_here c.args.keys.now c.args.links.now c.requires.tree c.args.key c.args.place c.args.bits c.requires.leads here, c.requires.within)

pub sought_from-requires : goal.sought_from-requires
sought_from-requires t c =
    let end : end_of c.args.links.now (link_at c.args.place c.args.bits) ≡ Some c.in-Some.next = c.in-Some.is in
    let on = c.requires.tree.later (link_at c.args.place c.args.bits) c.in-Some.next end in (
      omega arith,
      (
        c.requires.tree,
        (
          on.1,
          leads_on c.args.keys.now c.args.links.now c.requires.tree c.args.key c.args.place c.args.bits c.requires.leads c.in-Some.next
              (λ at. c.if-keys-place.false (get_or_from_slice_get c.args.keys.now c.args.place c.args.key 0 at)) end,
        ),
      ),
    )

pub returns-in-Some : goal.returns-in-Some
returns-in-Some t c =
    finds_on c.args.keys.now c.args.links.now c.args.key c.args.place c.args.bits c.in-Some.next c.sought_from.result c.in-Some.is c.sought_from.ensures

pub returns-in-None : goal.returns-in-None
returns-in-None t c = (
  found_nowhere c.args.keys.now c.args.links.now c.requires.tree c.args.key c.args.place c.args.bits c.requires.leads
      (λ at. c.if-keys-place.false (get_or_from_slice_get c.args.keys.now c.args.place c.args.key 0 at)) c.in-None.is,
  ends_here c.args.links.now c.args.place c.args.bits (omega (arith, c.requires.tree.two)) c.in-None.is,
)
