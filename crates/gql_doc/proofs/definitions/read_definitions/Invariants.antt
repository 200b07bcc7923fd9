use Rattle.std.proofs.Common.{◌≡◌, length}
use Rattle.gql_doc.specs.Drafting.{definition_draft, definitions_draft}
use Rattle.gql_doc.specs.Gathered.{gathered}
use Rattle.gql_doc.specs.Reading.{before_end}
use Rattle.gql_doc.proofs.LoopLaws.{ahead}
use Rattle.gql_doc.proofs.definitions.read_definitions.Given as goal

abbrev pub invariant-more : goal.invariant-more
invariant-more l = ahead gathered before_end definition_draft l.definitions l.cursor ≡ definitions_draft l.fn.cursor

abbrev pub decreases-more : goal.decreases-more
decreases-more l = length l.cursor
