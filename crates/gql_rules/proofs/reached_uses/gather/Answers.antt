use Rattle.std.proofs.Common.{◌≡◌, Some, length, refl, ap, slice_get, sym, ◌∙◌}
use Rattle.std.proofs.lemmas.Option.{slice_get_read}
use Rattle.gql_base.specs.Pairs.{names_of}
use Rattle.gql_fields.specs.UsePlaceViews.{shown}
use Rattle.gql_rules.specs.AlikeOperations.{spread_from}
use Rattle.gql_rules.specs.ReachedUses.{spreads_at}
use Rattle.gql_rules.proofs.GatheringLemmas.{gathered_more}
use Rattle.gql_rules.proofs.reached_uses.gather.Goals as goal

pub returns : goal.returns
returns c =
    let names = names_of c.args.against.now.fragments.now in
    let operations = c.args.operations.now in
    let one = c.index-operations-place.result in
    let at : slice_get operations c.args.place ≡ Some one
    = slice_get_read operations (length operations) c.args.place one refl c.requires.inside c.index-operations-place.is in
    gathered_more names operations c.args.place c.head_of-head.result one c.args.starts.now c.append_at.new.lists c.in_ok-spreads.spreads
    c.requires.starts at
    c.head_of-head.ensures.within (c.head_of-head.ensures.head one at)
    (c.in_ok-spreads.ensures ∙ ap (λ places. spreads_at names (shown places)) c.as_slice-own.ensures
    ∙ ap (spread_from names) (sym c.index-operations-place.is))
    c.in_ok-append_at.ensures
