use Rattle.std.proofs.Common.{arith, refl}
use Rattle.gql_objects.proofs.PutLemmas.{puts_behind, puts_over}
use Rattle.gql_objects.proofs.assembly.assemble.put_place_at.Goals as goal

pub returns-then-number-len-clause-puts : goal.returns-then-number-len-clause-puts
returns-then-number-len-clause-puts c =
    puts_over _ c.args.places.now.items _ c.args.number
    (let l = c.args.places.now.ok.0 in let e = c.len.ensures in let t = c.if-number-len.true in omega arith) refl

pub returns-clause-puts : goal.returns-clause-puts
returns-clause-puts c =
    puts_behind _ c.args.places.now.items c.add_open.new.places.items _ c.args.number c.in_ok-add_open.ensures.same
    c.in_ok-add_open.ensures.length c.in_ok-push.ensures.items
