-- What the tokens of a document come to.
use Rattle.std.proofs.Common.{◌∙◌}
use Rattle.gql_doc.proofs.DefinitionDrafts.{text_read}
use Rattle.gql_doc.proofs.outcome.document_of_tokens.Goals as goal

pub returns-in-Ok : goal.returns-in-Ok
returns-in-Ok c = c.outcome.ensures ∙ text_read c.args.cursor.now _ c.in-Ok.definitions c.in-Ok.ensures
