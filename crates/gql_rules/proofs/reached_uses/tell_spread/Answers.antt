use Rattle.std.proofs.Common.{arith, ◌≡◌, Some, length, refl, slice_get, sym, subst}
use Rattle.std.proofs.lemmas.Option.{slice_get_read}
use Rattle.gql_base.specs.Pairs.{names_of}
use Rattle.gql_fields.specs.Walk.{terms_in}
use Rattle.gql_rules.specs.Adds.{Adds}
use Rattle.gql_rules.specs.AlikeOperations.{WrongBefore, WrongSpread, definitions_of}
use Rattle.gql_rules.specs.Reaching.{AreBelow, led_to}
use Rattle.gql_rules.proofs.AddingLemmas.{adds_held}
use Rattle.gql_rules.proofs.GatheringLemmas.{before_more, gathered_below, none_before}
use Rattle.gql_rules.proofs.MarkLemmas.{led_is}
use Rattle.gql_rules.proofs.reached_uses.tell_spread.Goals as goal

pub loop-place-init : goal.loop-place-init
loop-place-init c = none_before (terms_in c.args.against.now) c.args.against.now.fragments.now c.args.operations.now c.args.starts.now
    c.args.found.now

pub tell_from-requires-clause-starts : goal.tell_from-requires-clause-starts
tell_from-requires-clause-starts c =
    let starts = c.args.starts.now in
    let place = c.loop-place.place in
    let own : c.as_slice-own.result.now ≡ led_to starts place
    = led_is starts place c.index-starts-place.result c.as_slice-own.result.now (omega (arith, c.requires.starts.long))
    c.index-starts-place.is c.as_slice-own.ensures in
    let names = names_of c.args.against.now.fragments.now in
    subst (AreBelow (length names)) (sym own) (gathered_below names c.args.operations.now (length c.args.operations.now) place starts
    c.requires.starts)

pub loop-place-preserved : goal.loop-place-preserved
loop-place-preserved c =
    let terms = terms_in c.args.against.now in
    let fragments = c.args.against.now.fragments.now in
    let operations = c.args.operations.now in
    let starts = c.args.starts.now in
    let place = c.loop-place.place in
    let head = c.index-operations-place.result in
    let own : c.as_slice-own.result.now ≡ led_to starts place
    = led_is starts place c.index-starts-place.result c.as_slice-own.result.now (omega (arith, c.requires.starts.long))
    c.index-starts-place.is c.as_slice-own.ensures in
    let at : slice_get operations place ≡ Some head
    = slice_get_read operations (length operations) place head refl (omega arith) c.index-operations-place.is in
    before_more terms fragments operations starts place head c.args.found.now c.loop-place.found c.told_once-most.new.found at
    c.loop-place.invariant
    (adds_held (WrongSpread terms fragments (definitions_of head) (led_to starts place)) c.loop-place.found c.tell_from.new.found
    c.told_once-most.new.found
    (subst (λ ns. Adds (WrongSpread terms fragments (definitions_of head) ns) c.loop-place.found c.tell_from.new.found) own
    c.in_ok-tell_from.ensures)
    c.told_once-most.ensures)

pub returns : goal.returns
returns c =
    let over : c.loop-place.place ≡ length c.args.operations.now = omega arith in
    subst (λ n. Adds (WrongBefore (terms_in c.args.against.now) c.args.against.now.fragments.now c.args.operations.now c.args.starts.now n)
    c.args.found.now c.loop-place.found)
    over c.loop-place.invariant
