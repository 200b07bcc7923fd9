use Rattle.std.proofs.Common.{◌≡◌, ◌-◌, vec_len}
use Rattle.gql_io.specs.Limits.{input_limit}
use Rattle.gql_io.specs.declared.reading.TheConstants.{PIECE}
use Rattle.gql_io.proofs.ReadingSteps.{HasRead}
use Rattle.gql_io.proofs.reading.read_whole.Given as goal

abbrev pub invariant-loop-piece : goal.invariant-loop-piece
invariant-loop-piece g l =
    (vec_len l.piece ≡ PIECE) × HasRead g.I.Source.left g.I.Source.given g.I.Source.faults l.initial.source l.source l.bytes.items

abbrev pub decreases-loop-piece : goal.decreases-loop-piece
decreases-loop-piece g l = input_limit - vec_len l.bytes
