use Rattle.gql_doc.proofs.CursorLaws.{scalar_taken}
use Rattle.gql_doc.proofs.cursor.Cursor.take_scalar.Goals as goal

pub returns : goal.returns
returns c = scalar_taken _ _ c.in_ok-lexeme.field-0 _ c.in_ok-lexeme.ensures c.in-Some.ensures
