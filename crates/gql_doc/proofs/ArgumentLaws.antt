-- The readers of arguments and directives.
use Rattle.std.proofs.Common.{◌≡◌, true, false, List, [], ◌∷◌, ◌++◌, inl, inr, refl, sym, subst}
use Rattle.gql_base.specs.declared.pos.Pos.{Pos}
use Rattle.gql_tokens.specs.declared.token.Punctuator.TheVariants as sign
use Rattle.gql_doc.specs.declared.tree.Variables.{Variables}
use Rattle.gql_doc.specs.declared.tree.ValueTree.{ValueTree}
use Rattle.gql_doc.specs.declared.tree.ArgumentTree.{ArgumentTree}
use Rattle.gql_doc.specs.declared.tree.DirectiveTree.{DirectiveTree}
use Rattle.gql_doc.specs.Words.{Tokens, Word, Language, tokens_of, ◌▸◌, SignAt}
use Rattle.gql_doc.specs.Grammar.{IsValue, IsPlacedValue, IsName, IsArgument, InParentheses, AreArguments, IsDirective, AreDirectives, max_levels}
use Rattle.gql_doc.specs.Readers.{Reader, begins, mapped, past, ended, some, gives, ◌then◌}
use Rattle.gql_doc.specs.Reading.{is_sign, other_than, take_sign, take_name, value_at, placed_value, argument, arguments, in_parentheses, directive, directives}
use Rattle.gql_doc.proofs.ReaderLaws.{Reads, Always, Pure, Seq, Map, Either, SomeOf, Starts, EachOfSome, PlacedBy, convert, seq, mapped_reads, past_reads, ended_reads, choice, many_reads, some_reads, gives_any, placed_reads}
use Rattle.gql_doc.proofs.TokenLaws.{sign_reads, name_reads}
use Rattle.gql_doc.proofs.Follows.{NextIs, Never, Before, joined, never_next, sign_next, other_is, before_each}
use Rattle.gql_doc.proofs.ValueLaws.{value_reads, value_starts, name_starts}
use Rattle.gql_doc.specs.Words.{PlacedName, PlacedValue}

-- A value with its place.

pub placed_value_reads : (variables : Variables) → Reads (placed_value variables) (IsPlacedValue variables) Always
unfolding placed_value
placed_value_reads variables =
    convert (placed_value variables) (PlacedBy make (IsValue variables max_levels)) (IsPlacedValue variables) Always Always
    (placed_reads make (other_than sign.CloseBracket) (value_at variables max_levels) (IsValue variables max_levels) (value_starts variables max_levels) Always (value_reads variables max_levels))
    (λ v ms (p, a, k, d, first). subst (λ w. IsPlacedValue variables w ms) (sym k) (d, first)) (λ v ms (d, first). (v.pos, v.node, refl, d, first)) (λ rest g. g)
  where
    make : Pos → ValueTree → PlacedValue
    make = λ pos value. record { pos = pos; node = value }

-- Arguments.

pub argument_reads : (variables : Variables) → Reads (argument variables) (IsArgument variables) Always
unfolding argument
argument_reads variables =
    convert (argument variables) (Seq IsName (λ name v. SomeOf (SignAt sign.Colon) ▸ Map (λ value. record { name = name; value = value }) (IsPlacedValue variables) v)) (IsArgument variables) Always Always
    (seq take_name IsName (λ name. past (take_sign sign.Colon) (mapped (λ value. record { name = name; value = value }) (placed_value variables))) (λ name v. SomeOf (SignAt sign.Colon) ▸ Map (λ value. record { name = name; value = value }) (IsPlacedValue variables) v) Always Always name_reads
    (λ name. past_reads (take_sign sign.Colon) (SignAt sign.Colon) (mapped (λ value. record { name = name; value = value }) (placed_value variables)) (Map (λ value. record { name = name; value = value }) (IsPlacedValue variables)) Always Always (sign_reads sign.Colon) (mapped_reads (λ value. record { name = name; value = value }) (placed_value variables) (IsPlacedValue variables) Always (placed_value_reads variables)) (λ v y rest q g. tt))
    (λ a v y rest q g. tt))
    (λ v ms (name, x, y, e, n, (a, b, h, colon, (value, k, d))). subst (λ w. IsArgument variables w ms) (sym k) (x, y, e, n, (a, b, h, colon, d)))
    (λ v ms (x, y, e, n, (a, b, h, colon, d)). (v.name, x, y, e, n, (a, b, h, colon, (v.value, refl, d)))) (λ rest g. g)

pub argument_starts : (variables : Variables) → Starts (other_than sign.CloseParen) (IsArgument variables)
argument_starts variables v ms rest (x, y, e, n, h) =
    joined (λ ts. begins (other_than sign.CloseParen) ts ≡ true) ms x y rest e (name_starts sign.CloseParen v.name x (tokens_of y ++ rest) n)

-- Parentheses.

module _ {A : Type 0} (f : Reader A) (D : A → Language) where
  abbrev Inside : List A → Language
  Inside vs = SomeOf (SignAt sign.OpenParen) ▸ (EachOfSome (other_than sign.CloseParen) f D vs ▸ SomeOf (SignAt sign.CloseParen))

  inside_to : (vs : List A) (ms : Word) → Either Inside (Pure []) vs ms → InParentheses D vs ms
  inside_to [] ms (inl (x, y, e, o, (a, b, h, (none, each), c))) = absurd none
  inside_to (v ∷ vs) ms (inl (x, y, e, o, (a, b, h, (_, each), c))) = (x, y, e, o, (a, b, h, each, c))
  inside_to vs ms (inr (k, nil)) = subst (λ w. InParentheses D w ms) (sym k) nil

  inside_from : (vs : List A) (ms : Word) → InParentheses D vs ms → Either Inside (Pure []) vs ms
  inside_from [] ms nil = inr (refl, nil)
  inside_from (v ∷ vs) ms (x, y, e, o, (a, b, h, each, c)) = inl (x, y, e, o, (a, b, h, (tt, each), c))

  pub in_parentheses_reads : (F : Tokens → Type 0) → Reads f D F → Starts (other_than sign.CloseParen) D → Before D Always F → ((rest : Tokens) → NextIs sign.CloseParen rest → F rest) → Reads (in_parentheses f) (InParentheses D) (Never (sign.OpenParen ∷ []))
  in_parentheses_reads F reads starts apart close =
      convert (in_parentheses f) (Either Inside (Pure [])) (InParentheses D) (Never (sign.OpenParen ∷ [])) (Never (sign.OpenParen ∷ []))
      (choice (is_sign sign.OpenParen) (past (take_sign sign.OpenParen) (ended (some (other_than sign.CloseParen) f) (take_sign sign.CloseParen))) (gives []) Inside (Pure []) Always (Never (sign.OpenParen ∷ [])) (Never (sign.OpenParen ∷ []))
      (past_reads (take_sign sign.OpenParen) (SignAt sign.OpenParen) (ended (some (other_than sign.CloseParen) f) (take_sign sign.CloseParen)) (λ vs. EachOfSome (other_than sign.CloseParen) f D vs ▸ SomeOf (SignAt sign.CloseParen)) Always Always (sign_reads sign.OpenParen)
      (ended_reads (some (other_than sign.CloseParen) f) (EachOfSome (other_than sign.CloseParen) f D) (take_sign sign.CloseParen) (SignAt sign.CloseParen) (NextIs sign.CloseParen) Always
      (some_reads (other_than sign.CloseParen) f D F (NextIs sign.CloseParen) reads starts (λ v ms rest d. apart v ms rest d tt) close (other_is sign.CloseParen)) (sign_reads sign.CloseParen) (sign_next sign.CloseParen Always))
      (λ v y rest q g. tt))
      (gives_any [] (Never (sign.OpenParen ∷ [])))
      (λ v ms rest (x, y, e, (pos, o), h). joined (NextIs sign.OpenParen) ms x y rest e (sign_next sign.OpenParen Always pos x (tokens_of y ++ rest) o tt))
      (λ v ms rest (k, nil) after. subst (λ w. begins (is_sign sign.OpenParen) (tokens_of w ++ rest) ≡ false) (sym nil) after.0) (λ rest g. tt) (λ rest g. g))
      inside_to inside_from (λ rest g. g)

-- in parentheses, or what follows
pub before_parentheses : {A : Type 0} → (D : A → Language) (F : Tokens → Type 0) → ((rest : Tokens) → NextIs sign.OpenParen rest → F rest) → Before (InParentheses D) F F
before_parentheses D F opens [] ms rest nil after = subst (λ w. F (tokens_of w ++ rest)) (sym nil) after
before_parentheses D F opens (v ∷ vs) ms rest (x, y, e, (pos, o), h) after = opens (tokens_of ms ++ rest) (joined (NextIs sign.OpenParen) ms x y rest e (sign_next sign.OpenParen Always pos x (tokens_of y ++ rest) o tt))

pub arguments_reads : (variables : Variables) → Reads (arguments variables) (AreArguments variables) (Never (sign.OpenParen ∷ []))
unfolding arguments
arguments_reads variables = in_parentheses_reads (argument variables) (IsArgument variables) Always (argument_reads variables) (argument_starts variables) (λ v ms rest d g. tt) (λ rest g. tt)

-- Directives.

module _ (variables : Variables) where
  abbrev make_directive : Pos → PlacedName → List ArgumentTree → DirectiveTree
  make_directive pos name arguments = record { pos = pos; name = name; arguments = arguments }

  pub directive_reads : Reads (directive variables) (IsDirective variables) (Never (sign.OpenParen ∷ []))
  unfolding directive
  directive_reads =
      convert (directive variables) (Seq (SignAt sign.At) (λ pos. Seq IsName (λ name. Map (make_directive pos name) (AreArguments variables)))) (IsDirective variables) (Never (sign.OpenParen ∷ [])) (Never (sign.OpenParen ∷ []))
      (seq (take_sign sign.At) (SignAt sign.At) (λ pos. take_name then (λ name. mapped (make_directive pos name) (arguments variables))) (λ pos. Seq IsName (λ name. Map (make_directive pos name) (AreArguments variables))) Always (Never (sign.OpenParen ∷ [])) (sign_reads sign.At)
      (λ pos. seq take_name IsName (λ name. mapped (make_directive pos name) (arguments variables)) (λ name. Map (make_directive pos name) (AreArguments variables)) Always (Never (sign.OpenParen ∷ [])) name_reads (λ name. mapped_reads (make_directive pos name) (arguments variables) (AreArguments variables) (Never (sign.OpenParen ∷ [])) (arguments_reads variables)) (λ a v y rest q g. tt))
      (λ a v y rest q g. tt))
      (λ v ms (pos, x, y, e, at, (name, a, b, h, n, (args, k, d))). subst (λ w. IsDirective variables w ms) (sym k) (x, y, e, at, (a, b, h, n, d)))
      (λ v ms (x, y, e, at, (a, b, h, n, d)). (v.pos, x, y, e, at, (v.name, a, b, h, n, (v.arguments, refl, d)))) (λ rest g. g)

  pub directive_next : (v : DirectiveTree) (ms : Word) (rest : Tokens) → IsDirective variables v ms → NextIs sign.At (tokens_of ms ++ rest)
  directive_next v ms rest (x, y, e, at, h) = joined (NextIs sign.At) ms x y rest e (sign_next sign.At Always v.pos x (tokens_of y ++ rest) at tt)

  pub directives_reads : Reads (directives variables) (AreDirectives variables) (Never (sign.At ∷ sign.OpenParen ∷ []))
  unfolding directives
  directives_reads =
      many_reads (is_sign sign.At) (directive variables) (IsDirective variables) (Never (sign.OpenParen ∷ [])) (Never (sign.At ∷ sign.OpenParen ∷ [])) directive_reads directive_next
      (λ v ms rest d. never_next (sign.OpenParen ∷ []) sign.At (tokens_of ms ++ rest) (refl, tt) (directive_next v ms rest d)) (λ rest g. g.1) (λ rest g. g.0)

  pub before_directives : (F : Tokens → Type 0) → ((rest : Tokens) → NextIs sign.At rest → F rest) → Before (AreDirectives variables) F F
  before_directives F at = before_each (IsDirective variables) F F (λ v ms rest d g. at (tokens_of ms ++ rest) (directive_next v ms rest d)) (λ rest g. g)
