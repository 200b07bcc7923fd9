-- The readings of some texts, computed: each is given as its tokens, all in line 1.
use Rattle.std.proofs.Common.{◌≡◌, ℕ, zero, suc, ◌+◌, pos, List, [], ◌∷◌, Option, Some, None, Result, Ok, Err, refl}
use Rattle.std.specs.Prelude.{codes}
use Rattle.gql_base.specs.declared.pos.Pos.{Pos}
use Rattle.gql_tokens.specs.declared.token.Token.{Token}
use Rattle.gql_tokens.specs.declared.token.Lexeme.{Lexeme}
use Rattle.gql_tokens.specs.declared.token.Lexeme.TheVariants.{Punctuator, Name, Number, End, Unexpected, Unsupported}
use Rattle.gql_tokens.specs.declared.token.Punctuator.TheVariants.{Bang, Dollar, OpenParen, CloseParen, Colon, Equals, At, OpenBracket, CloseBracket, OpenBrace, CloseBrace}
use Rattle.gql_tokens.specs.declared.token.Punctuator.TheVariants as sign
use Rattle.gql_doc.specs.declared.fault.ParseKind.{ParseKind}
use Rattle.gql_doc.specs.declared.fault.ParseKind.TheVariants as kind
use Rattle.gql_doc.specs.declared.fault.ParseFault.{ParseFault}
use Rattle.gql_doc.specs.declared.tree.DefinitionTree.{DefinitionTree}
use Rattle.gql_doc.specs.declared.tree.SelectionTree.TheBlock.{hidden-the_row-SelectionTree-0}
use Rattle.gql_doc.specs.declared.tree.ValueTree.TheBlock.{hidden-the_row-ValueTree-0, hidden-the_row-MemberTree-1}
use denote.Hole.Carrier.{hidden}
use Rattle.gql_doc.specs.Words.{Tokens}
use Rattle.gql_doc.specs.NameRules.{wrong_operations, doubled_name}
use Rattle.gql_doc.specs.Readers.{many, many_at}
use Rattle.gql_doc.specs.Reading.{parsed_by, document, definition, shorthand, operation, fragment, set, set_at, head, condition, arguments, argument, directives, directive, variables, variable, default, placed_type, type_at, placed_value, value_at, take_sign, take_word, take_name, take_fragment_name, take_scalar, take_operation, take_end, type_text}

abbrev at : ℕ → Pos
at column = record { line = 1; column = column }

abbrev t : ℕ → Lexeme → Token
t column says = record { lexeme = says; pos = at column }

abbrev by_rules : Option Pos → Option Pos → Option (ParseKind × Pos)
by_rules (Some place) doubled = Some (kind.Operations, place)
by_rules None (Some place) = Some (kind.Doubled, place)
by_rules None None = None

-- what a document's tokens are read as, with the rules on operations and names
abbrev ruled : Result (List DefinitionTree) ParseFault → Option (ParseKind × Pos)
ruled (Err fault) = Some (fault.kind, fault.pos)
ruled (Ok tree) = by_rules (wrong_operations tree) (doubled_name tree)

-- the empty text
empty_text : parsed_by document (t 1 End ∷ []) ≡ Err (record { kind = kind.Token; pos = at 1 })
unfolding document definition shorthand operation fragment set set_at head condition arguments argument directives directive variables variable default placed_type type_at placed_value value_at take_sign take_word take_name take_fragment_name take_scalar take_operation take_end type_text many many_at hidden-the_row-SelectionTree-0 hidden-the_row-ValueTree-0 hidden-the_row-MemberTree-1 hidden
empty_text = refl

-- { % }
bad_character : parsed_by document (t 1 (Punctuator OpenBrace) ∷ t 3 Unexpected ∷ []) ≡ Err (record { kind = kind.Character; pos = at 3 })
unfolding document definition shorthand operation fragment set set_at head condition arguments argument directives directive variables variable default placed_type type_at placed_value value_at take_sign take_word take_name take_fragment_name take_scalar take_operation take_end type_text many many_at hidden-the_row-SelectionTree-0 hidden-the_row-ValueTree-0 hidden-the_row-MemberTree-1 hidden
bad_character = refl

-- { a
unended_set : parsed_by document (t 1 (Punctuator OpenBrace) ∷ t 3 (Name (codes "a")) ∷ t 5 End ∷ []) ≡ Err (record { kind = kind.Token; pos = at 5 })
unfolding document definition shorthand operation fragment set set_at head condition arguments argument directives directive variables variable default placed_type type_at placed_value value_at take_sign take_word take_name take_fragment_name take_scalar take_operation take_end type_text many many_at hidden-the_row-SelectionTree-0 hidden-the_row-ValueTree-0 hidden-the_row-MemberTree-1 hidden
unended_set = refl

-- { a(x: 01) }
bad_number : parsed_by document (t 1 (Punctuator OpenBrace) ∷ t 3 (Name (codes "a")) ∷ t 4 (Punctuator OpenParen) ∷ t 5 (Name (codes "x")) ∷ t 6 (Punctuator Colon) ∷ t 8 Unexpected ∷ []) ≡ Err (record { kind = kind.Character; pos = at 8 })
unfolding document definition shorthand operation fragment set set_at head condition arguments argument directives directive variables variable default placed_type type_at placed_value value_at take_sign take_word take_name take_fragment_name take_scalar take_operation take_end type_text many many_at hidden-the_row-SelectionTree-0 hidden-the_row-ValueTree-0 hidden-the_row-MemberTree-1 hidden
bad_number = refl

-- { a(x: 18446744073709551616) }
wide_number : parsed_by document (t 1 (Punctuator OpenBrace) ∷ t 3 (Name (codes "a")) ∷ t 4 (Punctuator OpenParen) ∷ t 5 (Name (codes "x")) ∷ t 6 (Punctuator Colon) ∷ t 8 Unsupported ∷ []) ≡ Err (record { kind = kind.Number; pos = at 8 })
unfolding document definition shorthand operation fragment set set_at head condition arguments argument directives directive variables variable default placed_type type_at placed_value value_at take_sign take_word take_name take_fragment_name take_scalar take_operation take_end type_text many many_at hidden-the_row-SelectionTree-0 hidden-the_row-ValueTree-0 hidden-the_row-MemberTree-1 hidden
wide_number = refl

-- { value(a: 1.5) }
a_float : parsed_by document (t 1 (Punctuator OpenBrace) ∷ t 3 (Name (codes "value")) ∷ t 8 (Punctuator OpenParen) ∷ t 9 (Name (codes "a")) ∷ t 10 (Punctuator Colon) ∷ t 12 Unsupported ∷ []) ≡ Err (record { kind = kind.Number; pos = at 12 })
unfolding document definition shorthand operation fragment set set_at head condition arguments argument directives directive variables variable default placed_type type_at placed_value value_at take_sign take_word take_name take_fragment_name take_scalar take_operation take_end type_text many many_at hidden-the_row-SelectionTree-0 hidden-the_row-ValueTree-0 hidden-the_row-MemberTree-1 hidden
a_float = refl

-- { a } fragment on on A { a }
on_as_name : parsed_by document (t 1 (Punctuator OpenBrace) ∷ t 3 (Name (codes "a")) ∷ t 5 (Punctuator CloseBrace) ∷ t 7 (Name (codes "fragment")) ∷ t 16 (Name (codes "on")) ∷ t 19 (Name (codes "on")) ∷ t 22 (Name (codes "A")) ∷ t 24 (Punctuator OpenBrace) ∷ t 26 (Name (codes "a")) ∷ t 28 (Punctuator CloseBrace) ∷ t 29 End ∷ []) ≡ Err (record { kind = kind.Token; pos = at 16 })
unfolding document definition shorthand operation fragment set set_at head condition arguments argument directives directive variables variable default placed_type type_at placed_value value_at take_sign take_word take_name take_fragment_name take_scalar take_operation take_end type_text many many_at hidden-the_row-SelectionTree-0 hidden-the_row-ValueTree-0 hidden-the_row-MemberTree-1 hidden
on_as_name = refl

-- query($v: Int = $w) { a }
variable_in_constant : parsed_by document (t 1 (Name (codes "query")) ∷ t 6 (Punctuator OpenParen) ∷ t 7 (Punctuator Dollar) ∷ t 8 (Name (codes "v")) ∷ t 9 (Punctuator Colon) ∷ t 11 (Name (codes "Int")) ∷ t 15 (Punctuator Equals) ∷ t 17 (Punctuator Dollar) ∷ t 18 (Name (codes "w")) ∷ t 19 (Punctuator CloseParen) ∷ t 21 (Punctuator OpenBrace) ∷ t 23 (Name (codes "a")) ∷ t 25 (Punctuator CloseBrace) ∷ t 26 End ∷ []) ≡ Err (record { kind = kind.Token; pos = at 17 })
unfolding document definition shorthand operation fragment set set_at head condition arguments argument directives directive variables variable default placed_type type_at placed_value value_at take_sign take_word take_name take_fragment_name take_scalar take_operation take_end type_text many many_at hidden-the_row-SelectionTree-0 hidden-the_row-ValueTree-0 hidden-the_row-MemberTree-1 hidden
variable_in_constant = refl

-- { }
empty_set : parsed_by document (t 1 (Punctuator OpenBrace) ∷ t 3 (Punctuator CloseBrace) ∷ t 4 End ∷ []) ≡ Err (record { kind = kind.Token; pos = at 3 })
unfolding document definition shorthand operation fragment set set_at head condition arguments argument directives directive variables variable default placed_type type_at placed_value value_at take_sign take_word take_name take_fragment_name take_scalar take_operation take_end type_text many many_at hidden-the_row-SelectionTree-0 hidden-the_row-ValueTree-0 hidden-the_row-MemberTree-1 hidden
empty_set = refl

-- { a() }
empty_arguments : parsed_by document (t 1 (Punctuator OpenBrace) ∷ t 3 (Name (codes "a")) ∷ t 4 (Punctuator OpenParen) ∷ t 5 (Punctuator CloseParen) ∷ t 7 (Punctuator CloseBrace) ∷ t 8 End ∷ []) ≡ Err (record { kind = kind.Token; pos = at 5 })
unfolding document definition shorthand operation fragment set set_at head condition arguments argument directives directive variables variable default placed_type type_at placed_value value_at take_sign take_word take_name take_fragment_name take_scalar take_operation take_end type_text many many_at hidden-the_row-SelectionTree-0 hidden-the_row-ValueTree-0 hidden-the_row-MemberTree-1 hidden
empty_arguments = refl

-- query($v: Int!!) { a }
two_bangs : parsed_by document (t 1 (Name (codes "query")) ∷ t 6 (Punctuator OpenParen) ∷ t 7 (Punctuator Dollar) ∷ t 8 (Name (codes "v")) ∷ t 9 (Punctuator Colon) ∷ t 11 (Name (codes "Int")) ∷ t 14 (Punctuator Bang) ∷ t 15 (Punctuator Bang) ∷ t 16 (Punctuator CloseParen) ∷ t 18 (Punctuator OpenBrace) ∷ t 20 (Name (codes "a")) ∷ t 22 (Punctuator CloseBrace) ∷ t 23 End ∷ []) ≡ Err (record { kind = kind.Token; pos = at 15 })
unfolding document definition shorthand operation fragment set set_at head condition arguments argument directives directive variables variable default placed_type type_at placed_value value_at take_sign take_word take_name take_fragment_name take_scalar take_operation take_end type_text many many_at hidden-the_row-SelectionTree-0 hidden-the_row-ValueTree-0 hidden-the_row-MemberTree-1 hidden
two_bangs = refl

-- query
keyword_alone : parsed_by document (t 1 (Name (codes "query")) ∷ t 6 End ∷ []) ≡ Err (record { kind = kind.Token; pos = at 6 })
unfolding document definition shorthand operation fragment set set_at head condition arguments argument directives directive variables variable default placed_type type_at placed_value value_at take_sign take_word take_name take_fragment_name take_scalar take_operation take_end type_text many many_at hidden-the_row-SelectionTree-0 hidden-the_row-ValueTree-0 hidden-the_row-MemberTree-1 hidden
keyword_alone = refl

-- { ... on { a } }
on_without_name : parsed_by document (t 1 (Punctuator OpenBrace) ∷ t 3 (Punctuator sign.Spread) ∷ t 7 (Name (codes "on")) ∷ t 10 (Punctuator OpenBrace) ∷ t 12 (Name (codes "a")) ∷ t 14 (Punctuator CloseBrace) ∷ t 16 (Punctuator CloseBrace) ∷ t 17 End ∷ []) ≡ Err (record { kind = kind.Token; pos = at 10 })
unfolding document definition shorthand operation fragment set set_at head condition arguments argument directives directive variables variable default placed_type type_at placed_value value_at take_sign take_word take_name take_fragment_name take_scalar take_operation take_end type_text many many_at hidden-the_row-SelectionTree-0 hidden-the_row-ValueTree-0 hidden-the_row-MemberTree-1 hidden
on_without_name = refl

-- fragment F on A { a }
no_operation : ruled (parsed_by document (t 1 (Name (codes "fragment")) ∷ t 10 (Name (codes "F")) ∷ t 12 (Name (codes "on")) ∷ t 15 (Name (codes "A")) ∷ t 17 (Punctuator OpenBrace) ∷ t 19 (Name (codes "a")) ∷ t 21 (Punctuator CloseBrace) ∷ t 22 End ∷ [])) ≡ Some (kind.Operations, at 1)
unfolding document definition shorthand operation fragment set set_at head condition arguments argument directives directive variables variable default placed_type type_at placed_value value_at take_sign take_word take_name take_fragment_name take_scalar take_operation take_end type_text many many_at hidden-the_row-SelectionTree-0 hidden-the_row-ValueTree-0 hidden-the_row-MemberTree-1 hidden
no_operation = refl

-- { value } { value }
two_anonymous : ruled (parsed_by document (t 1 (Punctuator OpenBrace) ∷ t 3 (Name (codes "value")) ∷ t 9 (Punctuator CloseBrace) ∷ t 11 (Punctuator OpenBrace) ∷ t 13 (Name (codes "value")) ∷ t 19 (Punctuator CloseBrace) ∷ t 20 End ∷ [])) ≡ Some (kind.Operations, at 1)
unfolding document definition shorthand operation fragment set set_at head condition arguments argument directives directive variables variable default placed_type type_at placed_value value_at take_sign take_word take_name take_fragment_name take_scalar take_operation take_end type_text many many_at hidden-the_row-SelectionTree-0 hidden-the_row-ValueTree-0 hidden-the_row-MemberTree-1 hidden
two_anonymous = refl

-- query A { a } { b }
anonymous_second : ruled (parsed_by document (t 1 (Name (codes "query")) ∷ t 7 (Name (codes "A")) ∷ t 9 (Punctuator OpenBrace) ∷ t 11 (Name (codes "a")) ∷ t 13 (Punctuator CloseBrace) ∷ t 15 (Punctuator OpenBrace) ∷ t 17 (Name (codes "b")) ∷ t 19 (Punctuator CloseBrace) ∷ t 20 End ∷ [])) ≡ Some (kind.Operations, at 15)
unfolding document definition shorthand operation fragment set set_at head condition arguments argument directives directive variables variable default placed_type type_at placed_value value_at take_sign take_word take_name take_fragment_name take_scalar take_operation take_end type_text many many_at hidden-the_row-SelectionTree-0 hidden-the_row-ValueTree-0 hidden-the_row-MemberTree-1 hidden
anonymous_second = refl

-- query A { value } query A { value }
one_name_twice : ruled (parsed_by document (t 1 (Name (codes "query")) ∷ t 7 (Name (codes "A")) ∷ t 9 (Punctuator OpenBrace) ∷ t 11 (Name (codes "value")) ∷ t 17 (Punctuator CloseBrace) ∷ t 19 (Name (codes "query")) ∷ t 25 (Name (codes "A")) ∷ t 27 (Punctuator OpenBrace) ∷ t 29 (Name (codes "value")) ∷ t 35 (Punctuator CloseBrace) ∷ t 36 End ∷ [])) ≡ Some (kind.Doubled, at 19)
unfolding document definition shorthand operation fragment set set_at head condition arguments argument directives directive variables variable default placed_type type_at placed_value value_at take_sign take_word take_name take_fragment_name take_scalar take_operation take_end type_text many many_at hidden-the_row-SelectionTree-0 hidden-the_row-ValueTree-0 hidden-the_row-MemberTree-1 hidden
one_name_twice = refl

-- { a } fragment F on A { a } fragment F on A { a }
two_fragments : ruled (parsed_by document (t 1 (Punctuator OpenBrace) ∷ t 3 (Name (codes "a")) ∷ t 5 (Punctuator CloseBrace) ∷ t 7 (Name (codes "fragment")) ∷ t 16 (Name (codes "F")) ∷ t 18 (Name (codes "on")) ∷ t 21 (Name (codes "A")) ∷ t 23 (Punctuator OpenBrace) ∷ t 25 (Name (codes "a")) ∷ t 27 (Punctuator CloseBrace) ∷ t 29 (Name (codes "fragment")) ∷ t 38 (Name (codes "F")) ∷ t 40 (Name (codes "on")) ∷ t 43 (Name (codes "A")) ∷ t 45 (Punctuator OpenBrace) ∷ t 47 (Name (codes "a")) ∷ t 49 (Punctuator CloseBrace) ∷ t 50 End ∷ [])) ≡ Some (kind.Doubled, at 29)
unfolding document definition shorthand operation fragment set set_at head condition arguments argument directives directive variables variable default placed_type type_at placed_value value_at take_sign take_word take_name take_fragment_name take_scalar take_operation take_end type_text many many_at hidden-the_row-SelectionTree-0 hidden-the_row-ValueTree-0 hidden-the_row-MemberTree-1 hidden
two_fragments = refl

-- { a(x: {b: 1, b: 2}) }
member_twice : ruled (parsed_by document (t 1 (Punctuator OpenBrace) ∷ t 3 (Name (codes "a")) ∷ t 4 (Punctuator OpenParen) ∷ t 5 (Name (codes "x")) ∷ t 6 (Punctuator Colon) ∷ t 8 (Punctuator OpenBrace) ∷ t 9 (Name (codes "b")) ∷ t 10 (Punctuator Colon) ∷ t 12 (Number (pos 1)) ∷ t 15 (Name (codes "b")) ∷ t 16 (Punctuator Colon) ∷ t 18 (Number (pos 2)) ∷ t 19 (Punctuator CloseBrace) ∷ t 20 (Punctuator CloseParen) ∷ t 22 (Punctuator CloseBrace) ∷ t 23 End ∷ [])) ≡ Some (kind.Doubled, at 15)
unfolding document definition shorthand operation fragment set set_at head condition arguments argument directives directive variables variable default placed_type type_at placed_value value_at take_sign take_word take_name take_fragment_name take_scalar take_operation take_end type_text many many_at hidden-the_row-SelectionTree-0 hidden-the_row-ValueTree-0 hidden-the_row-MemberTree-1 hidden
member_twice = refl

-- { a(x: {b: {c: 1, c: 2}, b: 3}) }
member_within : ruled (parsed_by document (t 1 (Punctuator OpenBrace) ∷ t 3 (Name (codes "a")) ∷ t 4 (Punctuator OpenParen) ∷ t 5 (Name (codes "x")) ∷ t 6 (Punctuator Colon) ∷ t 8 (Punctuator OpenBrace) ∷ t 9 (Name (codes "b")) ∷ t 10 (Punctuator Colon) ∷ t 12 (Punctuator OpenBrace) ∷ t 13 (Name (codes "c")) ∷ t 14 (Punctuator Colon) ∷ t 16 (Number (pos 1)) ∷ t 19 (Name (codes "c")) ∷ t 20 (Punctuator Colon) ∷ t 22 (Number (pos 2)) ∷ t 23 (Punctuator CloseBrace) ∷ t 26 (Name (codes "b")) ∷ t 27 (Punctuator Colon) ∷ t 29 (Number (pos 3)) ∷ t 30 (Punctuator CloseBrace) ∷ t 31 (Punctuator CloseParen) ∷ t 33 (Punctuator CloseBrace) ∷ t 34 End ∷ [])) ≡ Some (kind.Doubled, at 19)
unfolding document definition shorthand operation fragment set set_at head condition arguments argument directives directive variables variable default placed_type type_at placed_value value_at take_sign take_word take_name take_fragment_name take_scalar take_operation take_end type_text many many_at hidden-the_row-SelectionTree-0 hidden-the_row-ValueTree-0 hidden-the_row-MemberTree-1 hidden
member_within = refl

-- query($v: T = {b: 1, b: 2}) { a }
in_default : ruled (parsed_by document (t 1 (Name (codes "query")) ∷ t 6 (Punctuator OpenParen) ∷ t 7 (Punctuator Dollar) ∷ t 8 (Name (codes "v")) ∷ t 9 (Punctuator Colon) ∷ t 11 (Name (codes "T")) ∷ t 13 (Punctuator Equals) ∷ t 15 (Punctuator OpenBrace) ∷ t 16 (Name (codes "b")) ∷ t 17 (Punctuator Colon) ∷ t 19 (Number (pos 1)) ∷ t 22 (Name (codes "b")) ∷ t 23 (Punctuator Colon) ∷ t 25 (Number (pos 2)) ∷ t 26 (Punctuator CloseBrace) ∷ t 27 (Punctuator CloseParen) ∷ t 29 (Punctuator OpenBrace) ∷ t 31 (Name (codes "a")) ∷ t 33 (Punctuator CloseBrace) ∷ t 34 End ∷ [])) ≡ Some (kind.Doubled, at 22)
unfolding document definition shorthand operation fragment set set_at head condition arguments argument directives directive variables variable default placed_type type_at placed_value value_at take_sign take_word take_name take_fragment_name take_scalar take_operation take_end type_text many many_at hidden-the_row-SelectionTree-0 hidden-the_row-ValueTree-0 hidden-the_row-MemberTree-1 hidden
in_default = refl

-- { a(x: 18446744073709551615) }
largest_number : ruled (parsed_by document (t 1 (Punctuator OpenBrace) ∷ t 3 (Name (codes "a")) ∷ t 4 (Punctuator OpenParen) ∷ t 5 (Name (codes "x")) ∷ t 6 (Punctuator Colon) ∷ t 8 (Number (pos 18446744073709551615)) ∷ t 28 (Punctuator CloseParen) ∷ t 30 (Punctuator CloseBrace) ∷ t 31 End ∷ [])) ≡ None
unfolding document definition shorthand operation fragment set set_at head condition arguments argument directives directive variables variable default placed_type type_at placed_value value_at take_sign take_word take_name take_fragment_name take_scalar take_operation take_end type_text many many_at hidden-the_row-SelectionTree-0 hidden-the_row-ValueTree-0 hidden-the_row-MemberTree-1 hidden
largest_number = refl

-- query A { a } fragment A on B { a }
one_query : ruled (parsed_by document (t 1 (Name (codes "query")) ∷ t 7 (Name (codes "A")) ∷ t 9 (Punctuator OpenBrace) ∷ t 11 (Name (codes "a")) ∷ t 13 (Punctuator CloseBrace) ∷ t 15 (Name (codes "fragment")) ∷ t 24 (Name (codes "A")) ∷ t 26 (Name (codes "on")) ∷ t 29 (Name (codes "B")) ∷ t 31 (Punctuator OpenBrace) ∷ t 33 (Name (codes "a")) ∷ t 35 (Punctuator CloseBrace) ∷ t 36 End ∷ [])) ≡ None
unfolding document definition shorthand operation fragment set set_at head condition arguments argument directives directive variables variable default placed_type type_at placed_value value_at take_sign take_word take_name take_fragment_name take_scalar take_operation take_end type_text many many_at hidden-the_row-SelectionTree-0 hidden-the_row-ValueTree-0 hidden-the_row-MemberTree-1 hidden
one_query = refl

-- query Q($v: [Int!]! = 1 @d) @e { x: a(y: [$v, true]) @f { ...F ... on A { b } ... @g { c } } } fragment F on A { d }
all_forms : ruled (parsed_by document (t 1 (Name (codes "query")) ∷ t 7 (Name (codes "Q")) ∷ t 8 (Punctuator OpenParen) ∷ t 9 (Punctuator Dollar) ∷ t 10 (Name (codes "v")) ∷ t 11 (Punctuator Colon) ∷ t 13 (Punctuator OpenBracket) ∷ t 14 (Name (codes "Int")) ∷ t 17 (Punctuator Bang) ∷ t 18 (Punctuator CloseBracket) ∷ t 19 (Punctuator Bang) ∷ t 21 (Punctuator Equals) ∷ t 23 (Number (pos 1)) ∷ t 25 (Punctuator At) ∷ t 26 (Name (codes "d")) ∷ t 27 (Punctuator CloseParen) ∷ t 29 (Punctuator At) ∷ t 30 (Name (codes "e")) ∷ t 32 (Punctuator OpenBrace) ∷ t 34 (Name (codes "x")) ∷ t 35 (Punctuator Colon) ∷ t 37 (Name (codes "a")) ∷ t 38 (Punctuator OpenParen) ∷ t 39 (Name (codes "y")) ∷ t 40 (Punctuator Colon) ∷ t 42 (Punctuator OpenBracket) ∷ t 43 (Punctuator Dollar) ∷ t 44 (Name (codes "v")) ∷ t 47 (Name (codes "true")) ∷ t 51 (Punctuator CloseBracket) ∷ t 52 (Punctuator CloseParen) ∷ t 54 (Punctuator At) ∷ t 55 (Name (codes "f")) ∷ t 57 (Punctuator OpenBrace) ∷ t 59 (Punctuator sign.Spread) ∷ t 62 (Name (codes "F")) ∷ t 64 (Punctuator sign.Spread) ∷ t 68 (Name (codes "on")) ∷ t 71 (Name (codes "A")) ∷ t 73 (Punctuator OpenBrace) ∷ t 75 (Name (codes "b")) ∷ t 77 (Punctuator CloseBrace) ∷ t 79 (Punctuator sign.Spread) ∷ t 83 (Punctuator At) ∷ t 84 (Name (codes "g")) ∷ t 86 (Punctuator OpenBrace) ∷ t 88 (Name (codes "c")) ∷ t 90 (Punctuator CloseBrace) ∷ t 92 (Punctuator CloseBrace) ∷ t 94 (Punctuator CloseBrace) ∷ t 96 (Name (codes "fragment")) ∷ t 105 (Name (codes "F")) ∷ t 107 (Name (codes "on")) ∷ t 110 (Name (codes "A")) ∷ t 112 (Punctuator OpenBrace) ∷ t 114 (Name (codes "d")) ∷ t 116 (Punctuator CloseBrace) ∷ t 117 End ∷ [])) ≡ None
unfolding document definition shorthand operation fragment set set_at head condition arguments argument directives directive variables variable default placed_type type_at placed_value value_at take_sign take_word take_name take_fragment_name take_scalar take_operation take_end type_text many many_at hidden-the_row-SelectionTree-0 hidden-the_row-ValueTree-0 hidden-the_row-MemberTree-1 hidden
all_forms = refl

-- `open` so often, and then `close` so often
abbrev nested : ℕ → ℕ → Tokens → Tokens
nested zero column tokens = tokens
nested (suc n) column tokens = t column (Punctuator OpenBrace) ∷ t (column + 1) (Name (codes "a")) ∷ nested n (column + 2) tokens

abbrev closed : ℕ → ℕ → Tokens
closed zero column = t column End ∷ []
closed (suc n) column = t column (Punctuator CloseBrace) ∷ closed n (column + 1)

-- 64 levels of sets are read, and the 65th is too deep
within : ruled (parsed_by document (nested 64 1 (closed 64 129))) ≡ None
unfolding document definition shorthand operation fragment set set_at head condition arguments argument directives directive variables variable default placed_type type_at placed_value value_at take_sign take_word take_name take_fragment_name take_scalar take_operation take_end type_text many many_at hidden-the_row-SelectionTree-0 hidden-the_row-ValueTree-0 hidden-the_row-MemberTree-1 hidden
within = refl

too_deep : parsed_by document (nested 65 1 (closed 65 131)) ≡ Err (record { kind = kind.Nesting; pos = at 129 })
unfolding document definition shorthand operation fragment set set_at head condition arguments argument directives directive variables variable default placed_type type_at placed_value value_at take_sign take_word take_name take_fragment_name take_scalar take_operation take_end type_text many many_at hidden-the_row-SelectionTree-0 hidden-the_row-ValueTree-0 hidden-the_row-MemberTree-1 hidden
too_deep = refl

-- A!!
bang_twice : parsed_by type_text (t 1 (Name (codes "A")) ∷ t 2 (Punctuator Bang) ∷ t 3 (Punctuator Bang) ∷ t 4 End ∷ []) ≡ Err (record { kind = kind.Token; pos = at 3 })
unfolding document definition shorthand operation fragment set set_at head condition arguments argument directives directive variables variable default placed_type type_at placed_value value_at take_sign take_word take_name take_fragment_name take_scalar take_operation take_end type_text many many_at hidden-the_row-SelectionTree-0 hidden-the_row-ValueTree-0 hidden-the_row-MemberTree-1 hidden
bang_twice = refl
