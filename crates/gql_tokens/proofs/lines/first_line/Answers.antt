use Rattle.std.proofs.Common.{arith}
use Rattle.gql_tokens.proofs.LinesLaws.{line_stops, first_line_ends, first_line_more}
use Rattle.gql_tokens.proofs.LinesCuts.{line_cut, next_cut}
use Rattle.gql_tokens.proofs.lines.first_line.Goals as goal

pub line_end_length-requires : goal.line_end_length-requires
line_end_length-requires c = line_stops c.args.text.now c.line_length-line.result c.line_length-line.ensures.exact c.line_length-line.ensures.within

pub returns-in-0 : goal.returns-in-0
returns-in-0 c = record {
  first =
      first_line_ends c.args.text.now c.line_length-line.result c.line_length-line.ensures.exact c.line_length-line.ensures.within (c.line_end_length.ensures.none c.in-0.is);
  cut = line_cut c.args.text.now c.line_length-line.result c.line_length-line.ensures.exact c.line_length-line.ensures.within;
  next = λ u. tt;
}

pub returns-in_default : goal.returns-in_default
returns-in_default c = record {
  first =
      first_line_more c.args.text.now c.line_length-line.result c.line_length-line.ensures.exact c.line_length-line.ensures.within c.line_end_length.result
      (omega arith) c.line_end_length.ensures.within (c.line_end_length.ensures.some (omega arith));
  cut = line_cut c.args.text.now c.line_length-line.result c.line_length-line.ensures.exact c.line_length-line.ensures.within;
  next = λ u. next_cut c.args.text.now c.line_length-line.result c.line_end_length.result u c.line_length-line.ensures.within
      (omega arith) c.line_end_length.ensures.within (c.line_end_length.ensures.ascii (omega arith));
}
