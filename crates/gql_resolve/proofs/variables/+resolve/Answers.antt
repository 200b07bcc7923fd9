use Rattle.std.proofs.Common.{◌≡◌, List, ℕ, take, IfOk, ap, ◌∙◌, subst, arith}
use lib.Seq.{take_all}
use Rattle.std.specs.List.{zip}
use Rattle.gql_base.specs.Pairs.{names_of, values_of}
use Rattle.gql_base.specs.declared.value.Value.{Value}
use Rattle.gql_resolve.specs.Variables.{resolved_members}
use Rattle.gql_resolve.specs.Variables.{known_in}
use Rattle.gql_resolve.proofs.VariableLemmas.{resolved_more, resolved_whole}
use Rattle.gql_resolve.proofs.variables.+resolve.Goals as goal

pub resolve_members-loop-index-preserved : goal.resolve_members-loop-index-preserved
resolve_members-loop-index-preserved t c =
    resolved_more (known_in c.args.env.now) c.args.members.now c.loop-index.index c.at.result.0.now c.at.result.1.now _ _ _ c.at.ensures c.loop-index.invariant
    c.in_ok-resolved_value.ensures c.in_ok-push.ensures.items

pub resolve_members-returns : goal.resolve_members-returns
resolve_members-returns t c =
    let members = c.args.members.now in
    let known = known_in c.args.env.now in
    let all : take c.loop-index.index members ≡ members = take_all c.loop-index.index members (omega (arith, c.loop-index-test.false, c.len-index-end.ensures.length)) in
    let whole : zip (names_of members) c.loop-index.values.items ≡ resolved_members known members
    = ap (zip (names_of members)) (c.loop-index.invariant ∙ ap (λ ms. values_of (resolved_members known ms)) all) ∙ resolved_whole known members in
    let P : List (List ℕ × Value) → Type 0 = λ ps. IfOk c.with_values.result (λ made. made ≡ ps) in
    subst P whole c.with_values.ensures
