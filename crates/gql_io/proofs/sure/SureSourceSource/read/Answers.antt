use Rattle.std.proofs.Common.{arith}
use Rattle.std.proofs.lemmas.Grind.{common_steps}
use Rattle.gql_io.proofs.Pieces.{copied_piece}
use Rattle.gql_io.proofs.sure.SureSourceSource.read.Goals as goal

pub returns-clause-taken : goal.returns-clause-taken
returns-clause-taken c =
    copied_piece c.args.self.now.bytes c.copy_from_slice.new.self _ c.args.self.now.given c.min-count.result
    (grind (arith, common_steps)) (grind (arith, common_steps))
