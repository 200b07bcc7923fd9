use Rattle.std.proofs.Common.{ℕ, List, ◌++◌, ap, sym, subst}
use Rattle.std.specs.List.{flat_map}
use Rattle.http_header.specs.HeaderMap.{get_all}
use Rattle.gql_request.specs.Headers.{replacing, setting}
use Rattle.gql_request.specs.declared.header_op.HeaderOp.{HeaderOp}
use Rattle.gql_request.proofs.HeaderLemmas.{IsDone, some_done}
use Rattle.gql_request.proofs.header_folding.take_over.Goals as goal

pub loop-name-preserved : goal.loop-name-preserved
loop-name-preserved c =
    let own = c.args.own.now in
    let whole : List HeaderOp = replacing own in
    let each : List ℕ → List HeaderOp = λ name. setting name (get_all own name) in
    let rest : List HeaderOp = flat_map each c.next.new.self in
    let next = subst (λ (names : List (List ℕ)). IsDone c.args.map.now whole c.loop-name.map (flat_map each names)) c.in-Some.ensures.steps c.loop-name.invariant in
    let known = subst (λ (ops : List HeaderOp). IsDone c.args.map.now whole c.loop-name.map (ops ++ rest)) (ap (setting c.in-Some.name.now) (sym c.get_all.ensures.value)) next in
    some_done c.args.map.now whole c.loop-name.map c.set_values.new.map (setting c.in-Some.name.now c.get_all.result) rest known c.in_ok-set_values.ensures.room
    c.in_ok-set_values.ensures.ok
