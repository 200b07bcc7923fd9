use Rattle.std.proofs.Common.{IfOk, subst}
use Rattle.gql_objects.specs.Assembly.{IsMade}
use Rattle.gql_objects.specs.PlaceStore.{present}
use Rattle.gql_objects.proofs.assembly.assemble.piece_alone.Goals as goal

pub returns : goal.returns
returns g c = subst (λ os. IfOk c.piece_from.result (IsMade c.args.filled (present os))) c.new.ensures.items c.piece_from.ensures
