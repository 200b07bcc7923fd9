use Rattle.std.proofs.Common.{◌≡◌, length}
use Rattle.gql_tokens.specs.declared.token.Punctuator.TheVariants.{CloseParen}
use Rattle.gql_doc.specs.Drafts.{added}
use Rattle.gql_doc.specs.Drafting.{variable_draft, some_variables_draft}
use Rattle.gql_doc.specs.Reading.{other_than}
use Rattle.gql_doc.proofs.LoopLaws.{ahead}
use Rattle.gql_doc.proofs.variables.read_some_variables.Given as goal

abbrev pub invariant-more : goal.invariant-more
invariant-more l = ahead added (other_than CloseParen) variable_draft l.variables l.cursor ≡ some_variables_draft l.fn.cursor

abbrev pub decreases-more : goal.decreases-more
decreases-more l = length l.cursor
