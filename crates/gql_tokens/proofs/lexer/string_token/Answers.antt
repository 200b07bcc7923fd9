use Rattle.gql_tokens.proofs.CutStands.{string_in, no_string_in}
use Rattle.gql_tokens.proofs.lexer.string_token.Goals as goal

pub returns-in-Some : goal.returns-in-Some
returns-in-Some c =
    string_in c.args.text.now c.utf8.text c.requires.first c.requires.plain c.in-Some.string.text c.in-Some.string.length (rw c.in-Some.is at c.in_ok-found.ensures)

pub returns-in-None : goal.returns-in-None
returns-in-None c = no_string_in c.args.text.now c.utf8.text c.requires.first c.requires.plain (rw c.in-None.is at c.in_ok-found.ensures)
