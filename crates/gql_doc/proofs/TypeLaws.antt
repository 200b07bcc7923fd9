-- The readers of types.
use Rattle.std.proofs.Common.{◌≡◌, ℕ, zero, suc, pred, true, false, [], ◌∷◌, ◌++◌, inl, inr, refl, sym, ap, ◌∙◌, subst, append-nil}
use mathlib.Core.Former.{none_left, one_more}
use denote.Hole.Carrier.{out, shown, hidden}
use Rattle.gql_base.specs.declared.pos.Pos.{Pos}
use Rattle.gql_tokens.specs.declared.token.Lexeme.TheVariants as lexeme
use Rattle.gql_tokens.specs.declared.token.Punctuator.TheVariants as sign
use Rattle.gql_base.specs.declared.type_ref.TypeRef as type
use Rattle.gql_base.specs.declared.type_ref.TypeRef.{TypeRef, Row_of-TypeRef, more_of-TypeRef, out-TypeRef, roll-TypeRef, roll-out-TypeRef}
use Rattle.gql_base.specs.declared.type_ref.TypeRef.TheBlock.{shape-the_row-TypeRef-0, hidden-the_row-TypeRef-0, shown-the_row-TypeRef-0}
use Rattle.gql_base.specs.declared.type_ref.TypeRef.TheViews.{rolls-List, rolls-NonNull}
use Rattle.gql_doc.specs.Words.{Tokens, Word, Language, tokens_of, ◌▸◌, SignAt, OpensAt, plain}
use Rattle.gql_doc.specs.Grammar.{IsType, IsNullableType, IsTypeIn, IsNullableIn, IsPlacedType, IsName, max_levels}
use Rattle.gql_doc.specs.Readers.{Reader, begins, mapped, ended, gives, too_deep, ◌then◌}
use Rattle.gql_doc.specs.Reading.{is_sign, other_than, take_sign, take_name, bare_type_by, list_type_by, null_or_not, type_at, placed_type}
use Rattle.gql_doc.proofs.ReaderLaws.{Reads, Always, Pure, Seq, Map, Either, SomeOf, SomeWord, Starts, PlacedBy, convert, seq, mapped_reads, past_reads, ended_reads, choice, gives_any, placed_reads}
use Rattle.gql_doc.proofs.TokenLaws.{start, sign_reads, name_reads}
use Rattle.gql_doc.proofs.Follows.{NextIs, Never, joined, before_name, opens_next, sign_next, none_is, never_next, never_name, name_is_other}
use Rattle.gql_doc.proofs.Deep.{deep_past_reads}
use Rattle.gql_doc.specs.Words.{PlacedName, PlacedType}

-- The type in a box.

inner_of : Row_of-TypeRef (one_more none_left) → TypeRef
inner_of (more_of-TypeRef t rest) = t

list_whole : (s : Unit {0}) (row : Row_of-TypeRef (one_more none_left)) → type.List' s row ≡ type.List (inner_of row)
unfolding inner_of out-TypeRef roll-TypeRef out shown-the_row-TypeRef-0 shown
list_whole s (more_of-TypeRef t rest) = sym (roll-out-TypeRef (type.List' s (more_of-TypeRef t rest))) ∙ rolls-List t

non_null_whole : (s : Unit {0}) (row : Row_of-TypeRef (one_more none_left)) → type.NonNull' s row ≡ type.NonNull (inner_of row)
unfolding inner_of out-TypeRef roll-TypeRef out shown-the_row-TypeRef-0 shown
non_null_whole s (more_of-TypeRef t rest) = sym (roll-out-TypeRef (type.NonNull' s (more_of-TypeRef t rest))) ∙ rolls-NonNull t

type_in : (levels : ℕ) (row : Row_of-TypeRef (one_more none_left)) (ms : Word) → IsTypeIn levels row ms → IsType levels (inner_of row) ms
unfolding inner_of
type_in levels (more_of-TypeRef t rest) ms h = h

nullable_in : (levels : ℕ) (row : Row_of-TypeRef (one_more none_left)) (ms : Word) → IsNullableIn levels row ms → IsNullableType levels (inner_of row) ms
unfolding inner_of
nullable_in levels (more_of-TypeRef t rest) ms h = h

list_written : (levels : ℕ) (t : TypeRef) (ms : Word) → (SomeOf (OpensAt levels sign.OpenBracket) ▸ (IsType (pred levels) t ▸ SomeOf (SignAt sign.CloseBracket))) ms → IsNullableType levels (type.List t) ms
unfolding hidden-the_row-TypeRef-0 shape-the_row-TypeRef-0 hidden
list_written levels t ms h = h

non_null_written : (levels : ℕ) (t : TypeRef) (ms : Word) → (IsNullableType levels t ▸ SomeOf (SignAt sign.Bang)) ms → IsType levels (type.NonNull t) ms
unfolding hidden-the_row-TypeRef-0 shape-the_row-TypeRef-0 hidden
non_null_written levels t ms h = h

-- Types without a `!` at their end.

abbrev IsNamedType : TypeRef → Language
IsNamedType = Map (λ (name : PlacedName). type.Named name.node) IsName

module _ (levels : ℕ) where
  -- what stands behind the bracket of a list type
  abbrev ListTypeRest : TypeRef → Language
  ListTypeRest = Map type.List (λ t. IsType (pred levels) t ▸ SomeOf (SignAt sign.CloseBracket))

  abbrev IsListType : TypeRef → Language
  IsListType v = SomeOf (OpensAt levels sign.OpenBracket) ▸ ListTypeRest v

  nullable_to : (v : TypeRef) (ms : Word) → Either IsListType IsNamedType v ms → IsNullableType levels v ms
  nullable_to v ms (inl (x, y, e, bracket, (t, k, h))) =
      subst (λ w. IsNullableType levels w ms) (sym k) (list_written levels t ms (x, y, e, bracket, h))
  nullable_to v ms (inr (name, k, n)) = subst (λ w. IsNullableType levels w ms) (sym k) (name.pos, n)

  nullable_from : (v : TypeRef) (ms : Word) → IsNullableType levels v ms → Either IsListType IsNamedType v ms
  nullable_from (type.Named name) ms (p, n) = inr (record { pos = p; node = name }, refl, n)
  nullable_from (type.List' s row) ms (x, y, e, bracket, (a, b, h, inner, close)) =
      inl (x, y, e, bracket, (inner_of row, list_whole s row, (a, b, h, type_in (pred levels) row a inner, close)))
  nullable_from (type.NonNull' s row) ms none = absurd none

  bracket_next : (v : TypeRef) (ms : Word) (rest : Tokens) → IsListType v ms → NextIs sign.OpenBracket (tokens_of ms ++ rest)
  bracket_next v ms rest (x, y, e, (pos, bracket), h) = joined (NextIs sign.OpenBracket) ms x y rest e (opens_next levels sign.OpenBracket pos x (tokens_of y ++ rest) bracket)

  named_apart : (v : TypeRef) (ms : Word) (rest : Tokens) → IsNamedType v ms → Always rest → begins (is_sign sign.OpenBracket) (tokens_of ms ++ rest) ≡ false
  named_apart v ms rest (name, k, n) g = (never_name (sign.OpenBracket ∷ []) (tokens_of ms ++ rest) (before_name Always name ms rest n tt)).0

  named_reads : Reads (mapped (λ (name : PlacedName). type.Named name.node) take_name) IsNamedType Always
  named_reads = mapped_reads (λ (name : PlacedName). type.Named name.node) take_name IsName Always name_reads

  nullable_reads : (list : Reader TypeRef) → Reads list IsListType Always → Reads (bare_type_by list) (IsNullableType levels) Always
  nullable_reads list lists =
      convert (bare_type_by list) (Either IsListType IsNamedType) (IsNullableType levels) Always Always
      (choice (is_sign sign.OpenBracket) list (mapped (λ (name : PlacedName). type.Named name.node) take_name) IsListType IsNamedType Always Always Always lists named_reads bracket_next named_apart (λ rest g. g) (λ rest g. g))
      nullable_to nullable_from (λ rest g. g)

  -- A `!` after it.

  abbrev Behind : TypeRef → TypeRef → Language
  Behind t = Either (Map (λ _. type.NonNull t) (SignAt sign.Bang)) (Pure t)

  behind_reads : (t : TypeRef) → Reads (null_or_not t) (Behind t) (Never (sign.Bang ∷ []))
  behind_reads t =
      choice (is_sign sign.Bang) (mapped (λ _. type.NonNull t) (take_sign sign.Bang)) (gives t) (Map (λ _. type.NonNull t) (SignAt sign.Bang)) (Pure t) Always (Never (sign.Bang ∷ [])) (Never (sign.Bang ∷ []))
      (mapped_reads (λ _. type.NonNull t) (take_sign sign.Bang) (SignAt sign.Bang) Always (sign_reads sign.Bang)) (gives_any t (Never (sign.Bang ∷ [])))
      (λ v ms rest (pos, k, bang). sign_next sign.Bang Always pos ms rest bang tt)
      (λ v ms rest (k, nil) g. subst (λ w. begins (is_sign sign.Bang) (tokens_of w ++ rest) ≡ false) (sym nil) g.0) (λ rest g. tt) (λ rest g. g)

  nullable_is : (v : TypeRef) (ms : Word) → IsNullableType levels v ms → IsType levels v ms
  nullable_is (type.Named name) ms h = h
  nullable_is (type.List' s row) ms h = h
  nullable_is (type.NonNull' s row) ms none = absurd none

  type_to : (v : TypeRef) (ms : Word) → Seq (IsNullableType levels) Behind v ms → IsType levels v ms
  type_to v ms (t, x, y, e, h, inl (pos, k, bang)) =
      subst (λ w. IsType levels w ms) (sym k) (non_null_written levels t ms (x, y, e, h, (pos, bang)))
  type_to v ms (t, x, y, e, h, inr (k, nil)) =
      subst (λ w. IsType levels w ms) (sym k) (nullable_is t ms (subst (IsNullableType levels t) (sym (append-nil x) ∙ ap (λ w. x ++ w) (sym nil) ∙ sym e) h))

  type_from : (v : TypeRef) (ms : Word) → IsType levels v ms → Seq (IsNullableType levels) Behind v ms
  type_from (type.Named name) ms h = (type.Named name, ms, [], sym (append-nil ms), h, inr (refl, refl))
  type_from (type.List' s row) ms h = (type.List' s row, ms, [], sym (append-nil ms), h, inr (refl, refl))
  type_from (type.NonNull' s row) ms (x, y, e, h, (pos, bang)) =
      (inner_of row, x, y, e, nullable_in levels row x h, inl (pos, non_null_whole s row, bang))

  types_by : (list : Reader TypeRef) → Reads list IsListType Always → Reads (bare_type_by list then null_or_not) (IsType levels) (Never (sign.Bang ∷ []))
  types_by list lists =
      convert (bare_type_by list then null_or_not) (Seq (IsNullableType levels) Behind) (IsType levels) (Never (sign.Bang ∷ [])) (Never (sign.Bang ∷ []))
      (seq (bare_type_by list) (IsNullableType levels) null_or_not Behind Always (Never (sign.Bang ∷ [])) (nullable_reads list lists) behind_reads (λ a v y rest q g. tt))
      type_to type_from (λ rest g. g)

list_type_reads : (n : ℕ) → Reads (type_at n) (IsType n) (Never (sign.Bang ∷ [])) → Reads (list_type_by (type_at n)) (IsListType (suc n)) Always
list_type_reads n reads =
    past_reads (take_sign sign.OpenBracket) (SignAt sign.OpenBracket) (mapped type.List (ended (type_at n) (take_sign sign.CloseBracket))) (ListTypeRest (suc n)) Always Always (sign_reads sign.OpenBracket)
    (mapped_reads type.List (ended (type_at n) (take_sign sign.CloseBracket)) (λ t. IsType n t ▸ SomeOf (SignAt sign.CloseBracket)) Always
    (ended_reads (type_at n) (IsType n) (take_sign sign.CloseBracket) (SignAt sign.CloseBracket) (Never (sign.Bang ∷ [])) Always reads (sign_reads sign.CloseBracket) (λ b y rest q g. never_next (sign.Bang ∷ []) sign.CloseBracket (tokens_of y ++ rest) (refl, tt) (sign_next sign.CloseBracket Always b y rest q g))))
    (λ v y rest q g. tt)

some_type : SomeWord (ListTypeRest 0)
some_type =
    let name : Word = plain (record { lexeme = lexeme.Name []; pos = start }) ∷ [] in
    let close : Word = plain (record { lexeme = lexeme.Punctuator sign.CloseBracket; pos = start }) ∷ [] in
    (type.List (type.Named []), name ++ close, (type.Named [], refl, (name, close, refl, (start, refl), (start, refl))))

pub type_reads : (levels : ℕ) → Reads (type_at levels) (IsType levels) (Never (sign.Bang ∷ []))
unfolding type_at
type_reads zero = types_by 0 (too_deep (is_sign sign.OpenBracket)) (deep_past_reads sign.OpenBracket (ListTypeRest 0) some_type)
type_reads (suc n) = types_by (suc n) (list_type_by (type_at n)) (list_type_reads n (type_reads n))

-- Types with their places.

abbrev type_start : Tokens → Type 0
type_start ts = begins (other_than sign.CloseBracket) ts ≡ true

nullable_starts : (levels : ℕ) (v : TypeRef) (ms : Word) (rest : Tokens) → IsNullableType levels v ms → type_start (tokens_of ms ++ rest)
nullable_starts levels v ms rest h = first (nullable_from levels v ms h)
  where
    first : Either (IsListType levels) IsNamedType v ms → type_start (tokens_of ms ++ rest)
    first (inl list) = none_is sign.OpenBracket sign.CloseBracket (tokens_of ms ++ rest) refl (bracket_next levels v ms rest list)
    first (inr (name, k, n)) = name_is_other sign.CloseBracket (tokens_of ms ++ rest) (before_name Always name ms rest n tt)

pub type_starts : (levels : ℕ) → Starts (other_than sign.CloseBracket) (IsType levels)
type_starts levels v ms rest h =
    let t = type_from levels v ms h in
    joined type_start ms t.1 t.2 rest t.3 (nullable_starts levels t.0 t.1 (tokens_of t.2 ++ rest) t.4)

pub placed_type_reads : Reads placed_type IsPlacedType (Never (sign.Bang ∷ []))
unfolding placed_type
placed_type_reads =
    convert placed_type (PlacedBy make (IsType max_levels)) IsPlacedType (Never (sign.Bang ∷ [])) (Never (sign.Bang ∷ []))
    (placed_reads make (other_than sign.CloseBracket) (type_at max_levels) (IsType max_levels) (type_starts max_levels) (Never (sign.Bang ∷ [])) (type_reads max_levels))
    (λ v ms (p, a, k, d, first). subst (λ w. IsPlacedType w ms) (sym k) (d, first)) (λ v ms (d, first). (v.pos, v.node, refl, d, first)) (λ rest g. g)
  where
    make : Pos → TypeRef → PlacedType
    make = λ pos ty. record { pos = pos; node = ty }
