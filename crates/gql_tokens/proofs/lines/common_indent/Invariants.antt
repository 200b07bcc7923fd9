use Rattle.std.proofs.Common.{◌≡◌, ◌≤◌, ◌-◌, length, drop, fold}
use Rattle.gql_tokens.specs.Lines.{lines_of, common_indent, with_line}
use Rattle.gql_tokens.proofs.lines.common_indent.Given as goal

-- the lines that are left make the whole indent
abbrev pub invariant-loop-least : goal.invariant-loop-least
invariant-loop-least l = record {
  within : l.start ≤ length l.text;
  whole : fold with_line l.least (lines_of (drop l.start l.text)) ≡ common_indent (lines_of l.text);
}

abbrev pub decreases-loop-least : goal.decreases-loop-least
decreases-loop-least l = length l.text - l.start
