use Rattle.std.proofs.Common.{◌≡◌, ◌<◌, false, get_or, length, ap, sym, subst, ◌∙◌, arith}
use Rattle.std.proofs.lemmas.Option.{slice_get-get_or}
use Rattle.std.specs.Bool.{Decides}
use Rattle.gql_rules.specs.Reaching.{ReachesFrom, is_in, led_to}
use Rattle.gql_rules.proofs.MarkLemmas.{led_is, marked_reached}
use Rattle.gql_rules.proofs.reaching.marks_itself.Goals as goal

pub walk_from-requires-clause-starts : goal.walk_from-requires-clause-starts
walk_from-requires-clause-starts c =
    let graph = c.args.graph.now in
    let led : c.as_slice.result.now ≡ led_to graph c.args.start
    = led_is graph c.args.start c.index-graph-start.result c.as_slice.result.now c.requires.inside c.index-graph-start.is c.as_slice.ensures in
    record { below = λ k among. c.requires.within.within c.args.start k (ap (is_in k) (sym led) ∙ among) }

pub returns : goal.returns
returns c =
    let graph = c.args.graph.now in
    let start = c.args.start in
    let marks = c.walk_from.new.marks in
    let led : c.as_slice.result.now ≡ led_to graph start
    = led_is graph start c.index-graph-start.result c.as_slice.result.now c.requires.inside c.index-graph-start.is c.as_slice.ensures in
    let within : start < length marks = omega (arith, c.requires.inside, c.requires.long, c.walk_from.auto.marks) in
    subst (λ starts. Decides (get_or marks start false) (ReachesFrom graph starts start)) led
    (marked_reached graph c.as_slice.result.now _ marks start (get_or marks start false) c.in_ok-walk_from.ensures.reached c.in_ok-walk_from.ensures.marks
    (slice_get-get_or marks start false within))
