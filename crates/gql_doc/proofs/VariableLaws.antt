-- The readers of definitions of variables.
use Rattle.std.proofs.Common.{List, [], ◌∷◌, ◌++◌, Option, refl, sym, subst}
use Rattle.gql_base.specs.declared.pos.Pos.{Pos}
use Rattle.gql_tokens.specs.declared.token.Punctuator.TheVariants as sign
use Rattle.gql_doc.specs.declared.tree.Variables.TheVariants.{Forbidden}
use Rattle.gql_doc.specs.declared.tree.DirectiveTree.{DirectiveTree}
use Rattle.gql_doc.specs.declared.tree.VariableTree.{VariableTree}
use Rattle.gql_doc.specs.Words.{Tokens, Word, Language, tokens_of, ◌▸◌, Maybe, SignAt}
use Rattle.gql_doc.specs.Grammar.{IsName, IsPlacedType, IsPlacedValue, IsDefault, IsVariable, AreVariables, AreDirectives}
use Rattle.gql_doc.specs.Readers.{mapped, past, ◌then◌}
use Rattle.gql_doc.specs.Reading.{is_sign, other_than, take_sign, take_name, placed_value, placed_type, default, directives, variable, variables}
use Rattle.gql_doc.proofs.ReaderLaws.{Reads, Always, Seq, Map, SomeOf, Starts, convert, seq, mapped_reads, past_reads, optional_reads}
use Rattle.gql_doc.proofs.TokenLaws.{sign_reads, name_reads}
use Rattle.gql_doc.proofs.Follows.{NextIs, Never, Before, joined, never_next, none_is, sign_next, before_seq, before_map, before_maybe}
use Rattle.gql_doc.proofs.ArgumentLaws.{placed_value_reads, directives_reads, before_directives, in_parentheses_reads}
use Rattle.gql_doc.proofs.TypeLaws.{placed_type_reads}
use Rattle.gql_doc.specs.Words.{PlacedName, PlacedType, PlacedValue}

equals_next : (v : PlacedValue) (ms : Word) (rest : Tokens) → IsDefault v ms → NextIs sign.Equals (tokens_of ms ++ rest)
equals_next v ms rest (x, y, e, (pos, equals), h) = joined (NextIs sign.Equals) ms x y rest e (sign_next sign.Equals Always pos x (tokens_of y ++ rest) equals tt)

pub default_reads : Reads default (Maybe IsDefault) (Never (sign.Equals ∷ []))
unfolding default
default_reads =
    optional_reads (is_sign sign.Equals) (past (take_sign sign.Equals) (placed_value Forbidden)) IsDefault Always (Never (sign.Equals ∷ []))
    (past_reads (take_sign sign.Equals) (SignAt sign.Equals) (placed_value Forbidden) (IsPlacedValue Forbidden) Always Always (sign_reads sign.Equals) (placed_value_reads Forbidden) (λ v y rest q g. tt)) equals_next (λ rest g. tt) (λ rest g. g.0)

-- what may not follow the definition of a variable
abbrev AfterVariable : Tokens → Type 0
AfterVariable = Never (sign.Bang ∷ sign.Equals ∷ sign.At ∷ sign.OpenParen ∷ [])

abbrev make : Pos → PlacedName → PlacedType → Option PlacedValue → List DirectiveTree → VariableTree
make pos name ty default directives = record { pos = pos; name = name; ty = ty; default = default; directives = directives }

module _ (pos : Pos) (name : PlacedName) where
  abbrev BehindDefault : PlacedType → Option PlacedValue → VariableTree → Language
  BehindDefault ty default = Map (make pos name ty default) (AreDirectives Forbidden)

  abbrev BehindType : PlacedType → VariableTree → Language
  BehindType ty = Seq (Maybe IsDefault) (BehindDefault ty)

  abbrev BehindColon : VariableTree → Language
  BehindColon = Seq IsPlacedType BehindType

  behind_default : (ty : PlacedType) (d : Option PlacedValue) → Reads (mapped (make pos name ty d) (directives Forbidden)) (BehindDefault ty d) AfterVariable
  behind_default ty d = mapped_reads (make pos name ty d) (directives Forbidden) (AreDirectives Forbidden) AfterVariable (convert (directives Forbidden) (AreDirectives Forbidden) (AreDirectives Forbidden) (Never (sign.At ∷ sign.OpenParen ∷ [])) AfterVariable (directives_reads Forbidden) (λ v ms h. h) (λ v ms h. h) (λ rest g. g.1.1))

  before_default : (ty : PlacedType) (d : Option PlacedValue) → Before (BehindDefault ty d) AfterVariable (Never (sign.Bang ∷ sign.Equals ∷ []))
  before_default ty d = before_map (make pos name ty d) (AreDirectives Forbidden) AfterVariable (Never (sign.Bang ∷ sign.Equals ∷ []))
      (λ v ms rest h g. before_directives Forbidden (Never (sign.Bang ∷ sign.Equals ∷ [])) (λ rest. never_next (sign.Bang ∷ sign.Equals ∷ []) sign.At rest (refl, (refl, tt))) v ms rest h (g.0, (g.1.0, tt)))

  behind_type : (ty : PlacedType) → Reads (default then (λ d. mapped (make pos name ty d) (directives Forbidden))) (BehindType ty) AfterVariable
  behind_type ty =
      seq default (Maybe IsDefault) (λ d. mapped (make pos name ty d) (directives Forbidden)) (BehindDefault ty) (Never (sign.Equals ∷ [])) AfterVariable default_reads (behind_default ty)
      (λ d v y rest q g. (before_default ty d v y rest q g).1)

  before_type : (ty : PlacedType) → Before (BehindType ty) AfterVariable (Never (sign.Bang ∷ []))
  before_type ty =
      before_seq (Maybe IsDefault) (BehindDefault ty) AfterVariable (Never (sign.Bang ∷ sign.Equals ∷ [])) (Never (sign.Bang ∷ []))
      (before_maybe IsDefault (Never (sign.Bang ∷ sign.Equals ∷ [])) (Never (sign.Bang ∷ [])) (λ v ms rest h g. never_next (sign.Bang ∷ []) sign.Equals (tokens_of ms ++ rest) (refl, tt) (equals_next v ms rest h)) (λ rest g. (g.0, tt)))
      (before_default ty)

  behind_colon : Reads (placed_type then (λ ty. default then (λ d. mapped (make pos name ty d) (directives Forbidden)))) BehindColon AfterVariable
  behind_colon =
      seq placed_type IsPlacedType (λ ty. default then (λ d. mapped (make pos name ty d) (directives Forbidden))) BehindType (Never (sign.Bang ∷ [])) AfterVariable placed_type_reads behind_type before_type

abbrev IsRead : VariableTree → Language
IsRead = Seq (SignAt sign.Dollar) (λ pos. Seq IsName (λ name v. SomeOf (SignAt sign.Colon) ▸ BehindColon pos name v))

variable_to : (v : VariableTree) (ms : Word) → IsRead v ms → IsVariable v ms
variable_to v ms (pos, a, b, e, dollar, (name, c, d, f, n, (g, h, i, colon, (ty, j, k, l, t, (value, m, o, p, def, (ds, is, dirs)))))) =
    subst (λ w. IsVariable w ms) (sym is) (a, b, e, dollar, (c, d, f, n, (g, h, i, colon, (j, k, l, t, (m, o, p, def, dirs)))))

variable_from : (v : VariableTree) (ms : Word) → IsVariable v ms → IsRead v ms
variable_from v ms (a, b, e, dollar, (c, d, f, n, (g, h, i, colon, (j, k, l, t, (m, o, p, def, dirs))))) =
    (v.pos, a, b, e, dollar, (v.name, c, d, f, n, (g, h, i, colon, (v.ty, j, k, l, t, (v.default, m, o, p, def, (v.directives, refl, dirs))))))

pub variable_reads : Reads variable IsVariable AfterVariable
unfolding variable
variable_reads =
    convert variable IsRead IsVariable AfterVariable AfterVariable
    (seq (take_sign sign.Dollar) (SignAt sign.Dollar) (λ pos. take_name then (λ name. past (take_sign sign.Colon) (placed_type then (λ ty. default then (λ d. mapped (make pos name ty d) (directives Forbidden)))))) (λ pos. Seq IsName (λ name v. SomeOf (SignAt sign.Colon) ▸ BehindColon pos name v)) Always AfterVariable (sign_reads sign.Dollar)
    (λ pos. seq take_name IsName (λ name. past (take_sign sign.Colon) (placed_type then (λ ty. default then (λ d. mapped (make pos name ty d) (directives Forbidden))))) (λ name v. SomeOf (SignAt sign.Colon) ▸ BehindColon pos name v) Always AfterVariable name_reads
    (λ name. past_reads (take_sign sign.Colon) (SignAt sign.Colon) (placed_type then (λ ty. default then (λ d. mapped (make pos name ty d) (directives Forbidden)))) (BehindColon pos name) Always AfterVariable (sign_reads sign.Colon) (behind_colon pos name) (λ v y rest q g. tt))
    (λ a v y rest q g. tt))
    (λ a v y rest q g. tt))
    variable_to variable_from (λ rest g. g)

dollar_next : (v : VariableTree) (ms : Word) (rest : Tokens) → IsVariable v ms → NextIs sign.Dollar (tokens_of ms ++ rest)
dollar_next v ms rest (x, y, e, dollar, h) = joined (NextIs sign.Dollar) ms x y rest e (sign_next sign.Dollar Always v.pos x (tokens_of y ++ rest) dollar tt)

pub variable_starts : Starts (other_than sign.CloseParen) IsVariable
variable_starts v ms rest h = none_is sign.Dollar sign.CloseParen (tokens_of ms ++ rest) refl (dollar_next v ms rest h)

pub variables_reads : Reads variables AreVariables (Never (sign.OpenParen ∷ []))
unfolding variables
variables_reads =
    in_parentheses_reads variable IsVariable AfterVariable variable_reads
    variable_starts
    (λ v ms rest h g. never_next (sign.Bang ∷ sign.Equals ∷ sign.At ∷ sign.OpenParen ∷ []) sign.Dollar (tokens_of ms ++ rest) (refl, (refl, (refl, (refl, tt)))) (dollar_next v ms rest h))
    (λ rest. never_next (sign.Bang ∷ sign.Equals ∷ sign.At ∷ sign.OpenParen ∷ []) sign.CloseParen rest (refl, (refl, (refl, (refl, tt)))))
