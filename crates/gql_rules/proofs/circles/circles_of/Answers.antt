use Rattle.std.proofs.Common.{◌≡◌, length, sym, subst, ◌∙◌}
use Rattle.std.specs.List.{flat_map}
use Rattle.gql_rules.specs.Circles.{AreTurned}
use Rattle.gql_rules.specs.Reaching.{AreBelow, led_to}
use Rattle.gql_rules.proofs.CircleLemmas.{circles_made, starts_inside}
use Rattle.gql_rules.proofs.circles.circles_of.Goals as goal

pub marks_from-requires-clause-starts : goal.marks_from-requires-clause-starts
marks_from-requires-clause-starts c =
    let graph = c.args.graph.now in
    let inner = c.in_ok-inner.inner in
    let heads = c.in_ok-heads.heads in
    let turned = c.in_ok-turned.turned in
    let are_turned : AreTurned inner (length inner) turned
    = subst (λ g. AreTurned g (length g) turned) c.as_slice-4.ensures c.in_ok-turned.ensures in
    let begun : c.as_slice-6.result.now ≡ flat_map (led_to inner) heads
    = c.as_slice-6.ensures ∙ c.in_ok-starts.ensures ∙ (λ i. flat_map (led_to (c.as_slice-2.ensures i)) (c.as_slice-3.ensures i)) in
    subst (λ g. AreBelow (length g) c.as_slice-6.result.now) (sym c.as_slice-5.ensures)
    (starts_inside graph c.args.ranks.now c.as_slice.result.now heads inner turned c.in_ok-inner.ensures c.in_ok-heads.ensures are_turned
    c.as_slice-6.result.now c.requires begun)

pub returns : goal.returns
returns c =
    let graph = c.args.graph.now in
    let inner = c.in_ok-inner.inner in
    let heads = c.in_ok-heads.heads in
    let turned = c.in_ok-turned.turned in
    let are_turned : AreTurned inner (length inner) turned
    = subst (λ g. AreTurned g (length g) turned) c.as_slice-4.ensures c.in_ok-turned.ensures in
    let begun : c.as_slice-6.result.now ≡ flat_map (led_to inner) heads
    = c.as_slice-6.ensures ∙ c.in_ok-starts.ensures ∙ (λ i. flat_map (led_to (c.as_slice-2.ensures i)) (c.as_slice-3.ensures i)) in
    circles_made graph c.args.ranks.now c.as_slice.result.now heads inner turned c.in_ok-inner.ensures c.in_ok-heads.ensures are_turned
    c.as_slice-6.result.now c.as_slice-5.result.now c.as_slice-7.result.now c.as_slice-8.result.now c.in_ok-behind.behind.items
    c.in_ok-before.before.items
    c.as_slice-5.ensures c.as_slice-7.ensures c.as_slice-8.ensures begun c.in_ok-behind.ensures.long c.in_ok-before.ensures.long
    c.in_ok-behind.ensures.marks c.in_ok-before.ensures.marks
