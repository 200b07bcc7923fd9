use Rattle.std.proofs.Common.{◌≡◌, arith, ap, ◌∙◌}
use Rattle.std.specs.Option.{option_copied}
use Rattle.gql_base.specs.Pairs.{under}
use Rattle.gql_schema.specs.NameSet.{with_names}
use Rattle.gql_schema.specs.Sound.{needed_in}
use Rattle.gql_schema.specs.Table.{types_of}
use Rattle.gql_schema.proofs.ReachLemmas.{walk_ends, walk_goes, walk_starts, walk_tells}
use Rattle.gql_schema.proofs.containment.reaches_itself.Goals as goal

pub walk-init : goal.walk-init
walk-init c =
    walk_starts (types_of c.args.types.now) c.args.start.now c.add_needed.new.reached
    (c.in_ok-add_needed.ensures ∙ (λ i. with_names (c.new-reached.ensures i) (needed_in (c.get.ensures i))))

pub walk-preserved : goal.walk-preserved
walk-preserved c =
    let table = types_of c.args.types.now in
    let sought : option_copied c.get-in-walk.result ≡ under c.at.result.now table
    = c.get-in-walk.ensures ∙ ap (λ n. under n table) (c.as_str.ensures ∙ c.in_ok-name.ensures) in
    let entered : c.add_needed-in-walk.new.reached ≡ with_names c.walk.reached (needed_in (option_copied c.get-in-walk.result)) = c.in_ok-add_needed-2.ensures in
    walk_goes table c.args.start.now c.walk.reached c.add_needed-in-walk.new.reached c.walk.next c.at.result.now c.walk.invariant c.at.ensures
    (entered ∙ (λ i. with_names c.walk.reached (needed_in (sought i)))) (omega arith)

pub walk-smaller : goal.walk-smaller
walk-smaller c =
    let table = types_of c.args.types.now in
    let sought : option_copied c.get-in-walk.result ≡ under c.at.result.now table
    = c.get-in-walk.ensures ∙ ap (λ n. under n table) (c.as_str.ensures ∙ c.in_ok-name.ensures) in
    let entered : c.add_needed-in-walk.new.reached ≡ with_names c.walk.reached (needed_in (option_copied c.get-in-walk.result)) = c.in_ok-add_needed-2.ensures in
    walk_ends table c.walk.reached c.add_needed-in-walk.new.reached c.walk.next c.at.result.now
    (entered ∙ (λ i. with_names c.walk.reached (needed_in (sought i)))) (omega arith)

pub returns : goal.returns
returns c = walk_tells (types_of c.args.types.now) c.args.start.now c.walk.reached c.walk.next c.has.result c.walk.invariant (omega arith) c.has.ensures
