use Rattle.std.proofs.Common.{◌≡◌, length}
use Rattle.gql_tokens.specs.declared.token.Punctuator.TheVariants.{At}
use Rattle.gql_doc.specs.Drafts.{added}
use Rattle.gql_doc.specs.Drafting.{directive_draft, directives_draft}
use Rattle.gql_doc.specs.Reading.{is_sign}
use Rattle.gql_doc.proofs.LoopLaws.{ahead}
use Rattle.gql_doc.proofs.arguments.read_directives.Given as goal

abbrev pub invariant-directives : goal.invariant-directives
invariant-directives l = ahead added (is_sign At) (directive_draft l.variables) l.directives l.cursor ≡ directives_draft l.variables l.fn.cursor

abbrev pub decreases-directives : goal.decreases-directives
decreases-directives l = length l.cursor
