-- The readers of one token.
use Rattle.std.proofs.Common.{◌≡◌, ◌≢◌, ℕ, Bool, true, false, not, List, [], ◌∷◌, Option, Some, None, refl, sym, ap, ◌∙◌, subst}
use Rattle.std.specs.Prelude.{codes, unwrap_or, if◌then◌else◌}
use Rattle.std.specs.Cmp.Lexicographic.{bytes_decides}
use denote.Enum.Bare.{same_true, true_same}
use Rattle.gql_base.specs.declared.pos.Pos.{Pos}
use Rattle.gql_tokens.specs.declared.token.Token.{Token}
use Rattle.gql_tokens.specs.Token.{is_final}
use Rattle.gql_tokens.specs.declared.token.Lexeme.{Lexeme}
use Rattle.gql_tokens.specs.declared.token.Lexeme.TheVariants as lexeme
use Rattle.gql_tokens.specs.declared.token.Punctuator.{Punctuator}
use Rattle.gql_tokens.specs.contracts.token.Punctuator as punctuator
use Rattle.gql_doc.specs.declared.tree.ValueTree.{ValueTree, Variable, Number, String, Boolean, Null, Enum, List', Object'}
use Rattle.gql_doc.specs.declared.document.OperationType.{OperationType}
use Rattle.gql_doc.specs.declared.document.OperationType.TheVariants.{Query, Mutation, Subscription}
use Rattle.gql_doc.specs.Words.{Word, Language, plain, OneAt, One, SignAt, Keyword, KeywordAt}
use Rattle.gql_doc.specs.Grammar.{IsName, IsFragmentName, IsEnumName, keyword}
use Rattle.gql_doc.specs.Reading.{says_sign, is_sign, says_word, is_word, same_text, if_so, name_in, fragment_name_in, scalar_in, operation_in, operation_named, with_pos, take_sign, take_word, take_name, take_fragment_name, take_scalar, take_operation}
use Rattle.gql_doc.proofs.ReaderLaws.{Reads, Always, Taken, convert, one_reads}
use Rattle.gql_doc.specs.Words.{PlacedName}

pub start : Pos
start = record { line = 1; column = 1 }

pub if_so_is : {A : Type 0} → (b : Bool) (a c : A) → if_so b a ≡ Some c → (b ≡ true) × (a ≡ c)
if_so_is true a c e = (refl, cc)
if_so_is false a c e = absurd (cc e)

-- Signs.

pub sign_is : (sign : Punctuator) (l : Lexeme) → says_sign sign l ≡ true → l ≡ lexeme.Punctuator sign
sign_is sign (lexeme.Punctuator found) e = ap lexeme.Punctuator (same_true punctuator.the_type tt found sign e)
sign_is sign (lexeme.Name text) e = absurd (cc e)
sign_is sign (lexeme.Number number) e = absurd (cc e)
sign_is sign (lexeme.String text) e = absurd (cc e)
sign_is sign lexeme.End e = absurd (cc e)
sign_is sign lexeme.Unexpected e = absurd (cc e)
sign_is sign lexeme.Unsupported e = absurd (cc e)

pub sign_same : (sign : Punctuator) → says_sign sign (lexeme.Punctuator sign) ≡ true
sign_same sign = true_same punctuator.the_type sign sign refl

sign_final : (sign : Punctuator) (l : Lexeme) (p : Pos) → is_final l ≡ true → if_so (says_sign sign l) p ≡ None
sign_final sign (lexeme.Punctuator found) p final = absurd (cc final)
sign_final sign (lexeme.Name text) p final = absurd (cc final)
sign_final sign (lexeme.Number number) p final = absurd (cc final)
sign_final sign (lexeme.String text) p final = absurd (cc final)
sign_final sign lexeme.End p final = refl
sign_final sign lexeme.Unexpected p final = refl
sign_final sign lexeme.Unsupported p final = refl

token_is : (t : Token) (l : Lexeme) (p : Pos) (ms : Word) → ms ≡ plain t ∷ [] → t.lexeme ≡ l → t.pos ≡ p → OneAt l p ms
token_is t l p ms k e h = k ∙ (λ i. plain (record { lexeme = e i; pos = h i }) ∷ [])

pub sign_reads : (sign : Punctuator) → Reads (take_sign sign) (SignAt sign) Always
unfolding take_sign
sign_reads sign =
    convert (take_sign sign) (Taken (λ token. if_so (is_sign sign token) token.pos)) (SignAt sign) Always Always
    (one_reads (λ token. if_so (is_sign sign token) token.pos) (record { lexeme = lexeme.Punctuator sign; pos = start }) start (ap (λ b. if_so b start) (sign_same sign)) (λ t final. sign_final sign t.lexeme t.pos final))
    (λ p ms (t, e, k). let so = if_so_is (says_sign sign t.lexeme) t.pos p e in token_is t (lexeme.Punctuator sign) p ms k (sign_is sign t.lexeme so.0) so.1)
    (λ p ms k. (record { lexeme = lexeme.Punctuator sign; pos = p }, ap (λ b. if_so b p) (sign_same sign), k)) (λ rest after. after)

-- Words.

pub word_is : (word : List ℕ) (l : Lexeme) → says_word word l ≡ true → l ≡ lexeme.Name word
word_is word (lexeme.Punctuator found) e = absurd (cc e)
word_is word (lexeme.Name text) e = ap lexeme.Name ((bytes_decides text word).0 e)
word_is word (lexeme.Number number) e = absurd (cc e)
word_is word (lexeme.String text) e = absurd (cc e)
word_is word lexeme.End e = absurd (cc e)
word_is word lexeme.Unexpected e = absurd (cc e)
word_is word lexeme.Unsupported e = absurd (cc e)

pub text_same : (text : List ℕ) → same_text text text ≡ true
text_same text = (bytes_decides text text).1 refl

word_final : (word : List ℕ) (l : Lexeme) (p : Pos) → is_final l ≡ true → if_so (says_word word l) p ≡ None
word_final word (lexeme.Punctuator found) p final = absurd (cc final)
word_final word (lexeme.Name text) p final = absurd (cc final)
word_final word (lexeme.Number number) p final = absurd (cc final)
word_final word (lexeme.String text) p final = absurd (cc final)
word_final word lexeme.End p final = refl
word_final word lexeme.Unexpected p final = refl
word_final word lexeme.Unsupported p final = refl

pub word_reads : (word : List ℕ) → Reads (take_word word) (KeywordAt word) Always
unfolding take_word
word_reads word =
    convert (take_word word) (Taken (λ token. if_so (is_word word token) token.pos)) (KeywordAt word) Always Always
    (one_reads (λ token. if_so (is_word word token) token.pos) (record { lexeme = lexeme.Name word; pos = start }) start (ap (λ b. if_so b start) (text_same word)) (λ t final. word_final word t.lexeme t.pos final))
    (λ p ms (t, e, k). let so = if_so_is (says_word word t.lexeme) t.pos p e in token_is t (lexeme.Name word) p ms k (word_is word t.lexeme so.0) so.1)
    (λ p ms k. (record { lexeme = lexeme.Name word; pos = p }, ap (λ b. if_so b p) (text_same word), k)) (λ rest after. after)

-- Names.

name_final : (l : Lexeme) (p : Pos) → is_final l ≡ true → name_in l p ≡ None
name_final (lexeme.Punctuator found) p final = absurd (cc final)
name_final (lexeme.Name text) p final = absurd (cc final)
name_final (lexeme.Number number) p final = absurd (cc final)
name_final (lexeme.String text) p final = absurd (cc final)
name_final lexeme.End p final = refl
name_final lexeme.Unexpected p final = refl
name_final lexeme.Unsupported p final = refl

-- the one token of a name
name_taken : (l : Lexeme) (p : Pos) (name : PlacedName) → name_in l p ≡ Some name → IsName name (plain (record { lexeme = l; pos = p }) ∷ [])
name_taken (lexeme.Punctuator found) p name e = absurd (cc e)
name_taken (lexeme.Name text) p name e =
    let k : record { pos = p; node = text } ≡ name = ap (λ o. unwrap_or o name) e in
    λ i. plain (record { lexeme = lexeme.Name (k i).node; pos = (k i).pos }) ∷ []
name_taken (lexeme.Number number) p name e = absurd (cc e)
name_taken (lexeme.String text) p name e = absurd (cc e)
name_taken lexeme.End p name e = absurd (cc e)
name_taken lexeme.Unexpected p name e = absurd (cc e)
name_taken lexeme.Unsupported p name e = absurd (cc e)

pub name_reads : Reads take_name IsName Always
unfolding take_name
name_reads =
    convert take_name (Taken (λ token. name_in token.lexeme token.pos)) IsName Always Always
    (one_reads (λ token. name_in token.lexeme token.pos) (record { lexeme = lexeme.Name []; pos = start }) (record { pos = start; node = [] }) refl (λ t final. name_final t.lexeme t.pos final))
    (λ name ms (t, e, k). k ∙ name_taken t.lexeme t.pos name e) (λ name ms k. (record { lexeme = lexeme.Name name.node; pos = name.pos }, refl, k)) (λ rest after. after)

-- Names of fragments.

pub text_differs : (text word : List ℕ) → text ≢ word → same_text text word ≡ false
text_differs text word other = differs (same_text text word) refl
  where
    differs : (b : Bool) → same_text text word ≡ b → same_text text word ≡ false
    differs true e = absurd (other ((bytes_decides text word).0 e))
    differs false e = e

pub text_other : (text word : List ℕ) → same_text text word ≡ false → text ≢ word
text_other text word e k = absurd (cc (e, (bytes_decides text word).1 k))

fragment_name_final : (l : Lexeme) (p : Pos) → is_final l ≡ true → fragment_name_in l p ≡ None
fragment_name_final (lexeme.Punctuator found) p final = absurd (cc final)
fragment_name_final (lexeme.Name text) p final = absurd (cc final)
fragment_name_final (lexeme.Number number) p final = absurd (cc final)
fragment_name_final (lexeme.String text) p final = absurd (cc final)
fragment_name_final lexeme.End p final = refl
fragment_name_final lexeme.Unexpected p final = refl
fragment_name_final lexeme.Unsupported p final = refl

not_true : (b : Bool) → not b ≡ true → b ≡ false
not_true true e = absurd (cc e)
not_true false e = refl

fragment_name_taken : (l : Lexeme) (p : Pos) (name : PlacedName) → fragment_name_in l p ≡ Some name → IsFragmentName name (plain (record { lexeme = l; pos = p }) ∷ [])
fragment_name_taken (lexeme.Punctuator found) p name e = absurd (cc e)
fragment_name_taken (lexeme.Name text) p name e =
    let so = if_so_is (not (same_text text (codes "on"))) (record { pos = p; node = text }) name e in
    let other : text ≢ codes "on" = text_other text (codes "on") (not_true (same_text text (codes "on")) so.0) in
    (subst (λ (n : PlacedName). n.node ≢ codes "on") so.1 other, λ i. plain (record { lexeme = lexeme.Name (so.1 i).node; pos = (so.1 i).pos }) ∷ [])
fragment_name_taken (lexeme.Number number) p name e = absurd (cc e)
fragment_name_taken (lexeme.String text) p name e = absurd (cc e)
fragment_name_taken lexeme.End p name e = absurd (cc e)
fragment_name_taken lexeme.Unexpected p name e = absurd (cc e)
fragment_name_taken lexeme.Unsupported p name e = absurd (cc e)

pub fragment_name_reads : Reads take_fragment_name IsFragmentName Always
unfolding take_fragment_name
fragment_name_reads =
    convert take_fragment_name (Taken (λ token. fragment_name_in token.lexeme token.pos)) IsFragmentName Always Always
    (one_reads (λ token. fragment_name_in token.lexeme token.pos) (record { lexeme = lexeme.Name []; pos = start }) (record { pos = start; node = [] }) refl (λ t final. fragment_name_final t.lexeme t.pos final))
    (λ name ms (t, e, k). let n = fragment_name_taken t.lexeme t.pos name e in (n.0, k ∙ n.1))
    (λ name ms (other, k). (record { lexeme = lexeme.Name name.node; pos = name.pos }, ap (λ b. if_so (not b) name) (text_differs name.node (codes "on") other), k)) (λ rest after. after)

-- Values of one token.

-- a value that is one token
abbrev pub IsScalar : ValueTree → Language
IsScalar (Variable name) = λ _. ⊥
IsScalar (Number number) = One (lexeme.Number number)
IsScalar (String text) = One (lexeme.String text)
IsScalar (Boolean holds) = Keyword (if holds then codes "true" else codes "false")
IsScalar Null = Keyword (codes "null")
IsScalar (Enum name) = λ ms. IsEnumName name × One (lexeme.Name name) ms
IsScalar (List' _ values) = λ _. ⊥
IsScalar (Object' _ members) = λ _. ⊥

scalar_final : (l : Lexeme) → is_final l ≡ true → scalar_in l ≡ None
scalar_final (lexeme.Punctuator found) final = absurd (cc final)
scalar_final (lexeme.Name text) final = absurd (cc final)
scalar_final (lexeme.Number number) final = absurd (cc final)
scalar_final (lexeme.String text) final = absurd (cc final)
scalar_final lexeme.End final = refl
scalar_final lexeme.Unexpected final = refl
scalar_final lexeme.Unsupported final = refl

named_word : (text : List ℕ) (p : Pos) (a b c : Bool) → same_text text (codes "true") ≡ a → same_text text (codes "false") ≡ b → same_text text (codes "null") ≡ c → IsScalar (if a then Boolean true else (if b then Boolean false else (if c then Null else Enum text))) (plain (record { lexeme = lexeme.Name text; pos = p }) ∷ [])
named_word text p true b c t f n = (p, ap (λ w. plain (record { lexeme = lexeme.Name w; pos = p }) ∷ []) ((bytes_decides text (codes "true")).0 t))
named_word text p false true c t f n = (p, ap (λ w. plain (record { lexeme = lexeme.Name w; pos = p }) ∷ []) ((bytes_decides text (codes "false")).0 f))
named_word text p false false true t f n = (p, ap (λ w. plain (record { lexeme = lexeme.Name w; pos = p }) ∷ []) ((bytes_decides text (codes "null")).0 n))
named_word text p false false false t f n =
    ((text_other text (codes "true") t, text_other text (codes "false") f, text_other text (codes "null") n), (p, refl))

scalar_taken : (l : Lexeme) (p : Pos) (value : ValueTree) → scalar_in l ≡ Some value → IsScalar value (plain (record { lexeme = l; pos = p }) ∷ [])
scalar_taken (lexeme.Punctuator found) p value e = absurd (cc e)
scalar_taken (lexeme.Name text) p value e =
    subst (λ v. IsScalar v (plain (record { lexeme = lexeme.Name text; pos = p }) ∷ [])) (ap (λ o. unwrap_or o value) e) (named_word text p (same_text text (codes "true")) (same_text text (codes "false")) (same_text text (codes "null")) refl refl refl)
scalar_taken (lexeme.Number number) p value e = subst (λ v. IsScalar v (plain (record { lexeme = lexeme.Number number; pos = p }) ∷ [])) (ap (λ o. unwrap_or o value) e) (p, refl)
scalar_taken (lexeme.String text) p value e = subst (λ v. IsScalar v (plain (record { lexeme = lexeme.String text; pos = p }) ∷ [])) (ap (λ o. unwrap_or o value) e) (p, refl)
scalar_taken lexeme.End p value e = absurd (cc e)
scalar_taken lexeme.Unexpected p value e = absurd (cc e)
scalar_taken lexeme.Unsupported p value e = absurd (cc e)

scalar_given : (value : ValueTree) (ms : Word) → IsScalar value ms → Taken (λ token. scalar_in token.lexeme) value ms
scalar_given (Variable name) ms none = absurd none
scalar_given (Number number) ms (p, k) = (record { lexeme = lexeme.Number number; pos = p }, refl, k)
scalar_given (String text) ms (p, k) = (record { lexeme = lexeme.String text; pos = p }, refl, k)
scalar_given (Boolean true) ms (p, k) = (record { lexeme = lexeme.Name (codes "true"); pos = p }, refl, k)
scalar_given (Boolean false) ms (p, k) = (record { lexeme = lexeme.Name (codes "false"); pos = p }, refl, k)
scalar_given Null ms (p, k) = (record { lexeme = lexeme.Name (codes "null"); pos = p }, refl, k)
scalar_given (Enum name) ms (others, (p, k)) =
    (record { lexeme = lexeme.Name name; pos = p }, ap (λ b. Some (if b then Boolean true else (if same_text name (codes "false") then Boolean false else (if same_text name (codes "null") then Null else Enum name)))) (text_differs name (codes "true") others.0) ∙ ap (λ b. Some (if b then Boolean false else (if same_text name (codes "null") then Null else Enum name))) (text_differs name (codes "false") others.1) ∙ ap (λ b. Some (if b then Null else Enum name)) (text_differs name (codes "null") others.2), k)
scalar_given (List' _ values) ms none = absurd none
scalar_given (Object' _ members) ms none = absurd none

pub scalar_reads : Reads take_scalar IsScalar Always
unfolding take_scalar
scalar_reads =
    convert take_scalar (Taken (λ token. scalar_in token.lexeme)) IsScalar Always Always
    (one_reads (λ token. scalar_in token.lexeme) (record { lexeme = lexeme.String []; pos = start }) (String []) refl (λ t final. scalar_final t.lexeme final))
    (λ value ms (t, e, k). subst (IsScalar value) (sym k) (scalar_taken t.lexeme t.pos value e)) scalar_given (λ rest after. after)

-- Words of operations.

operation_final : (l : Lexeme) (p : Pos) → is_final l ≡ true → operation_in l p ≡ None
operation_final (lexeme.Punctuator found) p final = absurd (cc final)
operation_final (lexeme.Name text) p final = absurd (cc final)
operation_final (lexeme.Number number) p final = absurd (cc final)
operation_final (lexeme.String text) p final = absurd (cc final)
operation_final lexeme.End p final = refl
operation_final lexeme.Unexpected p final = refl
operation_final lexeme.Unsupported p final = refl

kind_word : (text : List ℕ) (a b c : Bool) (ty : OperationType) → same_text text (codes "query") ≡ a → same_text text (codes "mutation") ≡ b → same_text text (codes "subscription") ≡ c → (if a then Some Query else (if b then Some Mutation else if_so c Subscription)) ≡ Some ty → text ≡ keyword ty
kind_word text true b c ty q m s e = subst (λ t. text ≡ keyword t) (ap (λ o. unwrap_or o ty) e) ((bytes_decides text (codes "query")).0 q)
kind_word text false true c ty q m s e = subst (λ t. text ≡ keyword t) (ap (λ o. unwrap_or o ty) e) ((bytes_decides text (codes "mutation")).0 m)
kind_word text false false true ty q m s e = subst (λ t. text ≡ keyword t) (ap (λ o. unwrap_or o ty) e) ((bytes_decides text (codes "subscription")).0 s)
kind_word text false false false ty q m s e = absurd (cc e)

kind_taken : (p : Pos) (o : Option OperationType) (kind : Pos × OperationType) → with_pos p o ≡ Some kind → (p ≡ kind.0) × (o ≡ Some kind.1)
kind_taken p None kind e = absurd (cc e)
kind_taken p (Some ty) kind e = let k : (p, ty) ≡ kind = ap (λ o. unwrap_or o kind) e in ((λ i. (k i).0), λ i. Some (k i).1)

-- the word of a kind of operation, and its place
abbrev pub IsKind : Pos × OperationType → Language
IsKind kind = KeywordAt (keyword kind.1) kind.0

operation_taken : (l : Lexeme) (p : Pos) (kind : Pos × OperationType) → operation_in l p ≡ Some kind → IsKind kind (plain (record { lexeme = l; pos = p }) ∷ [])
operation_taken (lexeme.Punctuator found) p kind e = absurd (cc e)
operation_taken (lexeme.Name text) p kind e =
    let k = kind_taken p (operation_named text) kind e in
    let w = kind_word text (same_text text (codes "query")) (same_text text (codes "mutation")) (same_text text (codes "subscription")) kind.1 refl refl refl k.1 in
    λ i. plain (record { lexeme = lexeme.Name (w i); pos = k.0 i }) ∷ []
operation_taken (lexeme.Number number) p kind e = absurd (cc e)
operation_taken (lexeme.String text) p kind e = absurd (cc e)
operation_taken lexeme.End p kind e = absurd (cc e)
operation_taken lexeme.Unexpected p kind e = absurd (cc e)
operation_taken lexeme.Unsupported p kind e = absurd (cc e)

named_kind : (ty : OperationType) → operation_named (keyword ty) ≡ Some ty
named_kind Query = refl
named_kind Mutation = refl
named_kind Subscription = refl

pub operation_word_reads : Reads take_operation IsKind Always
unfolding take_operation
operation_word_reads =
    convert take_operation (Taken (λ token. operation_in token.lexeme token.pos)) IsKind Always Always
    (one_reads (λ token. operation_in token.lexeme token.pos) (record { lexeme = lexeme.Name (codes "query"); pos = start }) (start, Query) refl (λ t final. operation_final t.lexeme t.pos final))
    (λ kind ms (t, e, k). k ∙ operation_taken t.lexeme t.pos kind e) (λ kind ms k. (record { lexeme = lexeme.Name (keyword kind.1); pos = kind.0 }, ap (with_pos kind.0) (named_kind kind.1), k)) (λ rest after. after)
