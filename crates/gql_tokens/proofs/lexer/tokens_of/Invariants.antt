use Rattle.std.proofs.Common.{◌≡◌, ◌++◌, ◌+◌, ◌-◌, ◌≤◌, List, false, length}
use Rattle.std.specs.Str.{chars, IsCharBoundary}
use Rattle.gql_tokens.specs.declared.token.Token.{Token}
use Rattle.gql_tokens.specs.Lexer.{Lexes}
use Rattle.gql_tokens.specs.Place.{text_start}
use Rattle.gql_tokens.specs.Parts.{NoBlockEnds}
use Rattle.gql_tokens.specs.Reaching.{left}
use Rattle.gql_tokens.proofs.lexer.tokens_of.Given as goal

-- whatever tokens the rest of the text has follow those so far
abbrev pub invariant-loop-tokens : goal.invariant-loop-tokens
invariant-loop-tokens l = record {
  boundary : IsCharBoundary l.text l.at;
  line : l.place.line ≤ 1 + l.at;
  column : l.place.column ≤ 1 + l.at;
  known : l.blocks_end ≡ false → NoBlockEnds (left l.text l.at);
  so_far : (more : List Token) → Lexes l.place (left l.text l.at) more → Lexes text_start (chars l.text) (l.tokens ++ more);
}

abbrev pub decreases-loop-tokens : goal.decreases-loop-tokens
decreases-loop-tokens l = length l.text - l.at
