use Rattle.gql_tokens.specs.Place.{text_start}
use Rattle.gql_tokens.proofs.LexerLaws.{lexes_unique}
use Rattle.gql_tokens.proofs.lexer.one_token_list.Goals as goal

pub returns : goal.returns
returns c = λ text tokens others h k. lexes_unique text_start text tokens others h k
