use Rattle.std.proofs.Common.{◌≡◌, length}
use Rattle.gql_tokens.specs.declared.token.Punctuator.TheVariants.{CloseParen}
use Rattle.gql_doc.specs.Drafts.{added}
use Rattle.gql_doc.specs.Drafting.{argument_draft, some_arguments_draft}
use Rattle.gql_doc.specs.Reading.{other_than}
use Rattle.gql_doc.proofs.LoopLaws.{ahead}
use Rattle.gql_doc.proofs.arguments.read_some_arguments.Given as goal

abbrev pub invariant-more : goal.invariant-more
invariant-more l = ahead added (other_than CloseParen) (argument_draft l.variables) l.arguments l.cursor ≡ some_arguments_draft l.variables l.fn.cursor

abbrev pub decreases-more : goal.decreases-more
decreases-more l = length l.cursor
