-- The readers of values.
use Rattle.std.proofs.Common.{◌≡◌, ℕ, zero, suc, pred, true, false, List, [], ◌∷◌, ◌++◌, inl, inr, refl, sym, ap, ◌∙◌, subst}
use Rattle.std.specs.Prelude.{not, codes, if◌then◌else◌}
use Rattle.gql_tokens.specs.declared.token.Lexeme.{Lexeme}
use Rattle.gql_tokens.specs.declared.token.Lexeme.TheVariants as lexeme
use Rattle.gql_tokens.specs.declared.token.Punctuator.{Punctuator}
use Rattle.gql_tokens.specs.contracts.token.Punctuator as punctuator
use denote.Enum.Bare.{sameb}
use Rattle.gql_tokens.specs.declared.token.Punctuator.TheVariants as sign
use Rattle.gql_doc.specs.declared.tree.Variables.{Variables}
use Rattle.gql_doc.specs.declared.tree.Variables.TheVariants.{Allowed, Forbidden}
use Rattle.gql_doc.specs.declared.tree.ValueTree.{ValueTree, Variable, Number, String, Boolean, Null, Enum, List as ListValue, List', Object, Object', Row_of-ValueTree, end_of-ValueTree, more_of-ValueTree, items-the_row-ValueTree, items_hidden-the_row-ValueTree-0, items_shown-the_row-ValueTree-0, Row_of-MemberTree, end_of-MemberTree, more_of-MemberTree, items-the_row-MemberTree, items_hidden-the_row-MemberTree-1, items_shown-the_row-MemberTree-1, out-ValueTree, roll-ValueTree, roll-out-ValueTree}
use Rattle.gql_doc.specs.declared.tree.ValueTree.TheBlock.{hidden-the_row-ValueTree-0, hidden-the_row-MemberTree-1}
use Rattle.gql_doc.specs.declared.tree.ValueTree.TheViews.{rolls-List, rolls-Object}
use mathlib.Core.Former.{Count}
use denote.Hole.Carrier.{out}
use Rattle.gql_doc.specs.Words.{Tokens, Word, Language, tokens_of, ◌▸◌, Each, One, SignAt, OpensAt, plain}
use Rattle.gql_doc.specs.Grammar.{IsValue, AreValues, AreMembers, IsMember, IsName, MayVary}
use Rattle.gql_doc.specs.Readers.{Reader, begins, mapped, past, ended, branch, many, too_deep, ◌then◌}
use Rattle.gql_doc.specs.Reading.{is_sign, says_sign, other_than, take_sign, take_name, take_scalar, variable_value, list_by, member_by, member_at, object_by, plain_value, value_by, value_at}
use Rattle.gql_doc.proofs.ReaderLaws.{Reads, Always, Seq, Map, Either, SomeOf, SomeWord, Starts, Apart, convert, seq, mapped_reads, past_reads, ended_reads, choice, many_reads}
use Rattle.gql_doc.proofs.TokenLaws.{start, sign_reads, name_reads, scalar_reads, IsScalar}
use Rattle.gql_doc.proofs.Follows.{NextIs, joined, before_one, before_name, opens_next, sign_next, none_is, other_sign, name_is_other, other_is}
use Rattle.gql_doc.proofs.Deep.{deep_past_reads}
use Rattle.gql_doc.specs.Words.{PlacedName}

-- A row of values is written as the list of its items.

values_of_row : (variables : Variables) (levels : ℕ) (m : Count) (row : Row_of-ValueTree m) (ms : Word) → AreValues variables levels row ms → Each (IsValue variables levels) (items-the_row-ValueTree m row) ms
values_of_row variables levels _ end_of-ValueTree ms nil = nil
values_of_row variables levels _ (more_of-ValueTree v row) ms (x, y, e, d, ds) = (x, y, e, d, values_of_row variables levels _ row y ds)

row_of_values : (variables : Variables) (levels : ℕ) (m : Count) (row : Row_of-ValueTree m) (ms : Word) → Each (IsValue variables levels) (items-the_row-ValueTree m row) ms → AreValues variables levels row ms
row_of_values variables levels _ end_of-ValueTree ms nil = nil
row_of_values variables levels _ (more_of-ValueTree v row) ms (x, y, e, d, ds) = (x, y, e, d, row_of_values variables levels _ row y ds)

members_of_row : (variables : Variables) (levels : ℕ) (m : Count) (row : Row_of-MemberTree m) (ms : Word) → AreMembers variables levels row ms → Each (IsMember variables levels) (items-the_row-MemberTree m row) ms
members_of_row variables levels _ end_of-MemberTree ms nil = nil
members_of_row variables levels _ (more_of-MemberTree name v row) ms (x, y, e, d, ds) = (x, y, e, d, members_of_row variables levels _ row y ds)

row_of_members : (variables : Variables) (levels : ℕ) (m : Count) (row : Row_of-MemberTree m) (ms : Word) → Each (IsMember variables levels) (items-the_row-MemberTree m row) ms → AreMembers variables levels row ms
row_of_members variables levels _ end_of-MemberTree ms nil = nil
row_of_members variables levels _ (more_of-MemberTree name v row) ms (x, y, e, d, ds) = (x, y, e, d, row_of_members variables levels _ row y ds)

list_whole : (s : _) (row : Row_of-ValueTree _) → List' s row ≡ ListValue (items-the_row-ValueTree _ row)
unfolding out-ValueTree roll-ValueTree out
list_whole s row = sym (roll-out-ValueTree (List' s row)) ∙ rolls-List _ ∙ ap ListValue (items_shown-the_row-ValueTree-0 s row)

object_whole : (s : _) (row : Row_of-MemberTree _) → Object' s row ≡ Object (items-the_row-MemberTree _ row)
unfolding out-ValueTree roll-ValueTree out
object_whole s row = sym (roll-out-ValueTree (Object' s row)) ∙ rolls-Object _ ∙ ap Object (items_shown-the_row-MemberTree-1 s row)

module _ (variables : Variables) (levels : ℕ) where
  -- what stands behind the bracket of a list
  abbrev ListRest : ValueTree → Language
  ListRest = Map ListValue (λ vs. Each (IsValue variables (pred levels)) vs ▸ SomeOf (SignAt sign.CloseBracket))

  abbrev IsListValue : ValueTree → Language
  IsListValue v = SomeOf (OpensAt levels sign.OpenBracket) ▸ ListRest v

  -- what stands behind the brace of an object
  abbrev ObjectRest : ValueTree → Language
  ObjectRest = Map Object (λ vs. Each (IsMember variables (pred levels)) vs ▸ SomeOf (SignAt sign.CloseBrace))

  abbrev IsObjectValue : ValueTree → Language
  IsObjectValue v = SomeOf (OpensAt levels sign.OpenBrace) ▸ ObjectRest v

abbrev IsVariableValue : ValueTree → Language
IsVariableValue v = SomeOf (SignAt sign.Dollar) ▸ Map (λ (name : PlacedName). Variable name.node) IsName v

abbrev IsPlainValue : Variables → ValueTree → Language
IsPlainValue Allowed = Either IsVariableValue IsScalar
IsPlainValue Forbidden = IsScalar

abbrev IsAnyValue : Variables → ℕ → ValueTree → Language
IsAnyValue variables levels = Either (IsListValue variables levels) (Either (IsObjectValue variables levels) (IsPlainValue variables))

module _ (variables : Variables) (levels : ℕ) where
  list_to : (v : ValueTree) (ms : Word) → IsListValue variables levels v ms → IsValue variables levels v ms
  list_to v ms (x, y, e, bracket, (vs, k, (a, b, h, each, close))) =
      subst (λ w. IsValue variables levels w ms) (sym k)
      (x, y, e, bracket, (a, b, h, row_of_values variables (pred levels) _ (hidden-the_row-ValueTree-0 vs) a (subst (λ us. Each (IsValue variables (pred levels)) us a) (sym (items_hidden-the_row-ValueTree-0 vs)) each), close))

  object_to : (v : ValueTree) (ms : Word) → IsObjectValue variables levels v ms → IsValue variables levels v ms
  object_to v ms (x, y, e, bracket, (vs, k, (a, b, h, each, close))) =
      subst (λ w. IsValue variables levels w ms) (sym k)
      (x, y, e, bracket, (a, b, h, row_of_members variables (pred levels) _ (hidden-the_row-MemberTree-1 vs) a (subst (λ us. Each (IsMember variables (pred levels)) us a) (sym (items_hidden-the_row-MemberTree-1 vs)) each), close))

  scalar_to : (v : ValueTree) (ms : Word) → IsScalar v ms → IsValue variables levels v ms
  scalar_to (Variable name) ms none = absurd none
  scalar_to (Number number) ms h = h
  scalar_to (String text) ms h = h
  scalar_to (Boolean holds) ms h = h
  scalar_to Null ms h = h
  scalar_to (Enum name) ms h = h
  scalar_to (List' _ values) ms none = absurd none
  scalar_to (Object' _ members) ms none = absurd none

  variable_to : MayVary variables → (v : ValueTree) (ms : Word) → IsVariableValue v ms → IsValue variables levels v ms
  variable_to may v ms (x, y, e, dollar, (name, k, n)) =
      subst (λ w. IsValue variables levels w ms) (sym k) (may, (x, y, e, dollar, (name.pos, n)))

plain_to : (variables : Variables) (levels : ℕ) (v : ValueTree) (ms : Word) → IsPlainValue variables v ms → IsValue variables levels v ms
plain_to Allowed levels v ms (inl h) = variable_to Allowed levels tt v ms h
plain_to Allowed levels v ms (inr h) = scalar_to Allowed levels v ms h
plain_to Forbidden levels v ms h = scalar_to Forbidden levels v ms h

value_to : (variables : Variables) (levels : ℕ) (v : ValueTree) (ms : Word) → IsAnyValue variables levels v ms → IsValue variables levels v ms
value_to variables levels v ms (inl h) = list_to variables levels v ms h
value_to variables levels v ms (inr (inl h)) = object_to variables levels v ms h
value_to variables levels v ms (inr (inr h)) = plain_to variables levels v ms h

variable_from : (variables : Variables) (name : List ℕ) (ms : Word) → MayVary variables → IsVariableValue (Variable name) ms → IsPlainValue variables (Variable name) ms
variable_from Allowed name ms may h = inl h
variable_from Forbidden name ms may h = absurd may

scalar_from : (variables : Variables) (v : ValueTree) (ms : Word) → IsScalar v ms → IsPlainValue variables v ms
scalar_from Allowed v ms h = inr h
scalar_from Forbidden v ms h = h

value_from : (variables : Variables) (levels : ℕ) (v : ValueTree) (ms : Word) → IsValue variables levels v ms → IsAnyValue variables levels v ms
value_from variables levels (Variable name) ms (may, (x, y, e, dollar, (p, n))) =
    inr (inr (variable_from variables name ms may (x, y, e, dollar, (record { pos = p; node = name }, refl, n))))
value_from variables levels (Number number) ms h = inr (inr (scalar_from variables (Number number) ms h))
value_from variables levels (String text) ms h = inr (inr (scalar_from variables (String text) ms h))
value_from variables levels (Boolean holds) ms h = inr (inr (scalar_from variables (Boolean holds) ms h))
value_from variables levels Null ms h = inr (inr (scalar_from variables Null ms h))
value_from variables levels (Enum name) ms h = inr (inr (scalar_from variables (Enum name) ms h))
value_from variables levels (List' s row) ms (x, y, e, bracket, (a, b, h, values, close)) =
    inl (x, y, e, bracket, (items-the_row-ValueTree _ row, list_whole s row, (a, b, h, values_of_row variables (pred levels) _ row a values, close)))
value_from variables levels (Object' s row) ms (x, y, e, bracket, (a, b, h, members, close)) =
    inr (inl (x, y, e, bracket, (items-the_row-MemberTree _ row, object_whole s row, (a, b, h, members_of_row variables (pred levels) _ row a members, close))))

-- First tokens.

one_starts : (l : Lexeme) (ms : Word) (rest : Tokens) → not (says_sign sign.CloseBracket l) ≡ true → One l ms → begins (other_than sign.CloseBracket) (tokens_of ms ++ rest) ≡ true
one_starts l ms rest e = before_one l (λ ts. begins (other_than sign.CloseBracket) ts ≡ true) (λ pos more. e) ms rest

front_starts : (ms x y : Word) (rest : Tokens) → ms ≡ x ++ y → begins (other_than sign.CloseBracket) (tokens_of x ++ (tokens_of y ++ rest)) ≡ true → begins (other_than sign.CloseBracket) (tokens_of ms ++ rest) ≡ true
front_starts ms x y rest = joined (λ ts. begins (other_than sign.CloseBracket) ts ≡ true) ms x y rest

-- no value begins with a `]`
pub value_starts : (variables : Variables) (levels : ℕ) → Starts (other_than sign.CloseBracket) (IsValue variables levels)
value_starts variables levels (Variable name) ms rest (may, (x, y, e, dollar, n)) = front_starts ms x y rest e (one_starts (lexeme.Punctuator sign.Dollar) x (tokens_of y ++ rest) refl dollar)
value_starts variables levels (Number number) ms rest h = one_starts (lexeme.Number number) ms rest refl h
value_starts variables levels (String text) ms rest h = one_starts (lexeme.String text) ms rest refl h
value_starts variables levels (Boolean holds) ms rest h = one_starts (lexeme.Name (if holds then codes "true" else codes "false")) ms rest refl h
value_starts variables levels Null ms rest h = one_starts (lexeme.Name (codes "null")) ms rest refl h
value_starts variables levels (Enum name) ms rest (others, h) = one_starts (lexeme.Name name) ms rest refl h
value_starts variables levels (List' s row) ms rest (x, y, e, (pos, bracket), h) = front_starts ms x y rest e (none_is sign.OpenBracket sign.CloseBracket (tokens_of x ++ (tokens_of y ++ rest)) refl (opens_next levels sign.OpenBracket pos x (tokens_of y ++ rest) bracket))
value_starts variables levels (Object' s row) ms rest (x, y, e, (pos, brace), h) = front_starts ms x y rest e (none_is sign.OpenBrace sign.CloseBracket (tokens_of x ++ (tokens_of y ++ rest)) refl (opens_next levels sign.OpenBrace pos x (tokens_of y ++ rest) brace))

pub name_starts : (other : Punctuator) → Starts (other_than other) IsName
name_starts other name ms rest h = name_is_other other (tokens_of ms ++ rest) (before_name Always name ms rest h tt)

pub member_starts : (variables : Variables) (levels : ℕ) → Starts (other_than sign.CloseBrace) (IsMember variables levels)
member_starts variables levels member ms rest (x, y, e, n, h) =
    joined (λ ts. begins (other_than sign.CloseBrace) ts ≡ true) ms x y rest e (name_starts sign.CloseBrace member.name x (tokens_of y ++ rest) n)

-- Lists, objects and all values.

-- closing after many
pub closed_reads : {A : Type 0} → (close : Punctuator) (f : Reader A) (D : A → Language) → Reads f D Always → Starts (other_than close) D → Reads (ended (many (other_than close) f) (take_sign close)) (λ vs. Each D vs ▸ SomeOf (SignAt close)) Always
closed_reads close f D reads starts =
    ended_reads (many (other_than close) f) (Each D) (take_sign close) (SignAt close) (NextIs close) Always
    (many_reads (other_than close) f D Always (NextIs close) reads starts (λ v ms rest d. tt) (λ rest g. tt) (other_is close)) (sign_reads close) (sign_next close Always)

list_reads : (variables : Variables) (n : ℕ) → Reads (value_at variables n) (IsValue variables n) Always → Reads (list_by (value_at variables n)) (IsListValue variables (suc n)) Always
list_reads variables n reads =
    past_reads (take_sign sign.OpenBracket) (SignAt sign.OpenBracket) (mapped ListValue (ended (many (other_than sign.CloseBracket) (value_at variables n)) (take_sign sign.CloseBracket))) (ListRest variables (suc n)) Always Always
    (sign_reads sign.OpenBracket) (mapped_reads ListValue (ended (many (other_than sign.CloseBracket) (value_at variables n)) (take_sign sign.CloseBracket)) (λ vs. Each (IsValue variables n) vs ▸ SomeOf (SignAt sign.CloseBracket)) Always (closed_reads sign.CloseBracket (value_at variables n) (IsValue variables n) reads (value_starts variables n)))
    (λ v y rest q g. tt)

member_reads : (variables : Variables) (n : ℕ) → Reads (value_at variables n) (IsValue variables n) Always → Reads (member_by (value_at variables n)) (IsMember variables n) Always
member_reads variables n reads =
    convert (member_by (value_at variables n)) (Seq IsName (λ name v. SomeOf (SignAt sign.Colon) ▸ Map (λ value. record { name = name; value = value }) (IsValue variables n) v)) (IsMember variables n) Always Always
    (seq take_name IsName (λ name. past (take_sign sign.Colon) (mapped (λ value. record { name = name; value = value }) (value_at variables n))) (λ name v. SomeOf (SignAt sign.Colon) ▸ Map (λ value. record { name = name; value = value }) (IsValue variables n) v) Always Always name_reads
    (λ name. past_reads (take_sign sign.Colon) (SignAt sign.Colon) (mapped (λ value. record { name = name; value = value }) (value_at variables n)) (Map (λ value. record { name = name; value = value }) (IsValue variables n)) Always Always (sign_reads sign.Colon) (mapped_reads (λ value. record { name = name; value = value }) (value_at variables n) (IsValue variables n) Always reads) (λ v y rest q g. tt))
    (λ a v y rest q g. tt))
    (λ v ms (name, x, y, e, n', (a, b, h, colon, (value, k, d))). subst (λ w. IsMember variables n w ms) (sym k) (x, y, e, n', (a, b, h, colon, d)))
    (λ v ms (x, y, e, n', (a, b, h, colon, d)). (v.name, x, y, e, n', (a, b, h, colon, (v.value, refl, d)))) (λ rest g. g)

object_reads : (variables : Variables) (n : ℕ) → Reads (value_at variables n) (IsValue variables n) Always → Reads (object_by (member_by (value_at variables n))) (IsObjectValue variables (suc n)) Always
object_reads variables n reads =
    past_reads (take_sign sign.OpenBrace) (SignAt sign.OpenBrace) (mapped Object (ended (many (other_than sign.CloseBrace) (member_by (value_at variables n))) (take_sign sign.CloseBrace))) (ObjectRest variables (suc n)) Always Always
    (sign_reads sign.OpenBrace) (mapped_reads Object (ended (many (other_than sign.CloseBrace) (member_by (value_at variables n))) (take_sign sign.CloseBrace)) (λ vs. Each (IsMember variables n) vs ▸ SomeOf (SignAt sign.CloseBrace)) Always (closed_reads sign.CloseBrace (member_by (value_at variables n)) (IsMember variables n) (member_reads variables n reads) (member_starts variables n)))
    (λ v y rest q g. tt)

variable_reads : Reads variable_value IsVariableValue Always
variable_reads =
    past_reads (take_sign sign.Dollar) (SignAt sign.Dollar) (mapped (λ (name : PlacedName). Variable name.node) take_name) (Map (λ (name : PlacedName). Variable name.node) IsName) Always Always
    (sign_reads sign.Dollar) (mapped_reads (λ (name : PlacedName). Variable name.node) take_name IsName Always name_reads) (λ v y rest q g. tt)

-- a scalar begins with no sign
scalar_apart : (s : Punctuator) → Apart (is_sign s) IsScalar Always
scalar_apart s (Variable name) ms rest none g = absurd none
scalar_apart s (Number number) ms rest h g = before_one (lexeme.Number number) (λ ts. begins (is_sign s) ts ≡ false) (λ pos more. refl) ms rest h
scalar_apart s (String text) ms rest h g = before_one (lexeme.String text) (λ ts. begins (is_sign s) ts ≡ false) (λ pos more. refl) ms rest h
scalar_apart s (Boolean holds) ms rest h g = before_one (lexeme.Name (if holds then codes "true" else codes "false")) (λ ts. begins (is_sign s) ts ≡ false) (λ pos more. refl) ms rest h
scalar_apart s Null ms rest h g = before_one (lexeme.Name (codes "null")) (λ ts. begins (is_sign s) ts ≡ false) (λ pos more. refl) ms rest h
scalar_apart s (Enum name) ms rest (others, h) g = before_one (lexeme.Name name) (λ ts. begins (is_sign s) ts ≡ false) (λ pos more. refl) ms rest h
scalar_apart s (List' _ values) ms rest none g = absurd none
scalar_apart s (Object' _ members) ms rest none g = absurd none

dollar_next : (v : ValueTree) (ms : Word) (rest : Tokens) → IsVariableValue v ms → NextIs sign.Dollar (tokens_of ms ++ rest)
dollar_next v ms rest (x, y, e, (pos, dollar), n) = joined (NextIs sign.Dollar) ms x y rest e (sign_next sign.Dollar Always pos x (tokens_of y ++ rest) dollar tt)

plain_reads : (variables : Variables) → Reads (plain_value variables) (IsPlainValue variables) Always
plain_reads Allowed = choice (is_sign sign.Dollar) variable_value take_scalar IsVariableValue IsScalar Always Always Always variable_reads scalar_reads dollar_next (scalar_apart sign.Dollar) (λ rest g. g) (λ rest g. g)
plain_reads Forbidden = scalar_reads

-- a plain value begins with no bracket
plain_apart : (variables : Variables) (s : Punctuator) → sameb punctuator.the_type sign.Dollar s ≡ false → Apart (is_sign s) (IsPlainValue variables) Always
plain_apart Allowed s other v ms rest (inl h) g = other_sign sign.Dollar s (tokens_of ms ++ rest) other (dollar_next v ms rest h)
plain_apart Allowed s other v ms rest (inr h) g = scalar_apart s v ms rest h g
plain_apart Forbidden s other v ms rest h g = scalar_apart s v ms rest h g

module _ (variables : Variables) (levels : ℕ) where
  bracket_next : (v : ValueTree) (ms : Word) (rest : Tokens) → IsListValue variables levels v ms → NextIs sign.OpenBracket (tokens_of ms ++ rest)
  bracket_next v ms rest (x, y, e, (pos, bracket), h) = joined (NextIs sign.OpenBracket) ms x y rest e (opens_next levels sign.OpenBracket pos x (tokens_of y ++ rest) bracket)

  brace_next : (v : ValueTree) (ms : Word) (rest : Tokens) → IsObjectValue variables levels v ms → NextIs sign.OpenBrace (tokens_of ms ++ rest)
  brace_next v ms rest (x, y, e, (pos, brace), h) = joined (NextIs sign.OpenBrace) ms x y rest e (opens_next levels sign.OpenBrace pos x (tokens_of y ++ rest) brace)

  others_apart : Apart (is_sign sign.OpenBracket) (Either (IsObjectValue variables levels) (IsPlainValue variables)) Always
  others_apart v ms rest (inl h) g = other_sign sign.OpenBrace sign.OpenBracket (tokens_of ms ++ rest) refl (brace_next v ms rest h)
  others_apart v ms rest (inr h) g = plain_apart variables sign.OpenBracket refl v ms rest h g

  value_by_reads : (list object : Reader ValueTree) → Reads list (IsListValue variables levels) Always → Reads object (IsObjectValue variables levels) Always → Reads (value_by variables list object) (IsValue variables levels) Always
  value_by_reads list object lists objects =
      convert (value_by variables list object) (IsAnyValue variables levels) (IsValue variables levels) Always Always
      (choice (is_sign sign.OpenBracket) list (branch (is_sign sign.OpenBrace) object (plain_value variables)) (IsListValue variables levels) (Either (IsObjectValue variables levels) (IsPlainValue variables)) Always Always Always lists
      (choice (is_sign sign.OpenBrace) object (plain_value variables) (IsObjectValue variables levels) (IsPlainValue variables) Always Always Always objects (plain_reads variables) brace_next (plain_apart variables sign.OpenBrace refl) (λ rest g. g) (λ rest g. g))
      bracket_next others_apart (λ rest g. g) (λ rest g. g))
      (value_to variables levels) (value_from variables levels) (λ rest g. g)

some_list : (variables : Variables) → SomeWord (ListRest variables 0)
some_list variables = (ListValue [], plain (record { lexeme = lexeme.Punctuator sign.CloseBracket; pos = start }) ∷ [], ([], refl, ([], plain (record { lexeme = lexeme.Punctuator sign.CloseBracket; pos = start }) ∷ [], refl, refl, (start, refl))))

some_object : (variables : Variables) → SomeWord (ObjectRest variables 0)
some_object variables = (Object [], plain (record { lexeme = lexeme.Punctuator sign.CloseBrace; pos = start }) ∷ [], ([], refl, ([], plain (record { lexeme = lexeme.Punctuator sign.CloseBrace; pos = start }) ∷ [], refl, refl, (start, refl))))

-- what is read as a value is written so, and what is written so is read
pub value_reads : (variables : Variables) (levels : ℕ) → Reads (value_at variables levels) (IsValue variables levels) Always
unfolding value_at
value_reads variables zero = value_by_reads variables 0 (too_deep (is_sign sign.OpenBracket)) (too_deep (is_sign sign.OpenBrace)) (deep_past_reads sign.OpenBracket (ListRest variables 0) (some_list variables)) (deep_past_reads sign.OpenBrace (ObjectRest variables 0) (some_object variables))
value_reads variables (suc n) = value_by_reads variables (suc n) (list_by (value_at variables n)) (object_by (member_by (value_at variables n))) (list_reads variables n (value_reads variables n)) (object_reads variables n (value_reads variables n))

pub member_at_reads : (variables : Variables) (levels : ℕ) → Reads (member_at variables levels) (IsMember variables levels) Always
unfolding member_at
member_at_reads variables levels = member_reads variables levels (value_reads variables levels)
