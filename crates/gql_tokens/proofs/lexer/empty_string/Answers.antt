use Rattle.std.proofs.Common.{◌∙◌}
use Rattle.gql_tokens.proofs.CutStands.{empty_in}
use Rattle.gql_tokens.proofs.lexer.empty_string.Goals as goal

pub returns : goal.returns
returns c = λ text utf8 first unended. empty_in text utf8 first c.empty.result unended c.empty.ensures
