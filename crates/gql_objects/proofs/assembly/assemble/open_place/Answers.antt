use Rattle.std.proofs.Common.{arith, refl}
use Rattle.gql_objects.proofs.PutLemmas.{puts_over}
use Rattle.gql_objects.proofs.assembly.assemble.open_place.Goals as goal

pub returns-then-number-len-clause-opens : goal.returns-then-number-len-clause-opens
returns-then-number-len-clause-opens c =
    puts_over _ c.args.places.now.items _ c.args.number
    (let l = c.args.places.now.ok.0 in let e = c.len.ensures in let t = c.if-number-len.true in omega arith) refl
