use Rattle.std.proofs.Common.{◌≡◌, Decides, rules}
use Rattle.std.specs.Cmp.Lexicographic.{pointwise, pointwise_decides}
use Rattle.gql_base.specs.contracts.pos.PosPartialEq.TheImpl.{eq-value}
use Rattle.gql_base.specs.declared.pos.Pos.{Pos}
use Rattle.gql_base.proofs.SameLemmas.{told}
use Rattle.gql_base.proofs.server_error.same_locations.Goals as goal

pos-decides : (x y : Pos) → Decides (eq-value.it x y) (x ≡ y)
pos-decides x y = search rules

pub returns : goal.returns
returns c = told c.eq.result (pointwise eq-value.it c.args.a.now c.args.b.now) c.args.a.now c.args.b.now c.eq.ensures (pointwise_decides pos-decides c.args.a.now c.args.b.now)
