-- The faults of a text, in words.
use Rattle.std.specs.Prelude.{ℕ, List, codes}
use Rattle.gql_doc.specs.declared.fault.ParseKind.{ParseKind}
use Rattle.gql_doc.specs.declared.fault.ParseKind.TheVariants.{Character, Token, Number, Nesting}
use Rattle.gql_doc.specs.declared.fault.ParseKind.TheVariants.{Operations, Doubled}

abbrev pub message_of : ParseKind → List ℕ
message_of Character = codes "Syntax error: unexpected character"
message_of Token = codes "Syntax error: unexpected token"
message_of Number = codes "Syntax error: number not supported"
message_of Nesting = codes "Syntax error: nested too deep"
message_of Operations = codes "Syntax error: wrong operations"
message_of Doubled = codes "Syntax error: doubled name"
