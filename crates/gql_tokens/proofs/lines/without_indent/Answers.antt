use Rattle.gql_tokens.proofs.LinesCuts.{indent_cut}
use Rattle.gql_tokens.proofs.lines.without_indent.Goals as goal

pub range_from-requires : goal.range_from-requires
range_from-requires c = λ some. indent_cut c.args.line.now c.args.indent c.min.result c.utf8.line c.requires c.min.ensures some
