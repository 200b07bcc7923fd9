-- Tokens: only one begins at a place.
use Rattle.std.proofs.Common.{◌≡◌, ℕ, Bool, true, false, ◌||◌, ◌==◌, ◌⊎◌, List, [], ◌∷◌, ◌++◌, length, Option, Some, None, if◌then◌else◌, refl, sym, ap, ◌∙◌, inl, inr, arith, append_assoc, append-nil, length-append, subst, encode_utf8_all, ℤ}
use Rattle.std.specs.Char.{is_ascii_digit}
use Rattle.std.proofs.lemmas.Bool.Decides.{nat_tests}
use Rattle.gql_tokens.specs.declared.token.Punctuator.{Punctuator}
use Rattle.gql_tokens.specs.declared.token.Punctuator.TheVariants as punctuators
use Rattle.gql_tokens.specs.declared.token.Lexeme.{Lexeme}
use Rattle.gql_tokens.specs.declared.token.Lexeme.TheVariants as lexemes
use Rattle.gql_base.specs.Letters.{is_name_start}
use Rattle.gql_tokens.specs.Characters.{quote, minus, begins}
use Rattle.gql_tokens.specs.Number.{IsWhole, IsInteger, IsFloat, IsSupported}
use Rattle.gql_tokens.specs.String.{IsString}
use Rattle.gql_tokens.specs.Block.{three_quotes, written, IsBlockString}
use Rattle.gql_tokens.specs.Token.{characters_of, Spells, IsToken}
use Rattle.gql_tokens.proofs.NameLaws.{name_begins}
use Rattle.gql_tokens.proofs.Lists.{head_is, tail_is, fronts, begins_front}
use Rattle.gql_tokens.proofs.NumberLaws.{integer_not_float}
use Rattle.gql_tokens.proofs.StringLaws.{written_not_quote, string_unique}
use Rattle.gql_tokens.proofs.BlockLaws.{block_unique}

-- the kinds of tokens that a first character tells apart
pub data Class : Type 0 where
  punctuation naming numeric quoting : Class

unfoldable pub class_of : Lexeme → Class
class_of (lexemes.Punctuator p) = punctuation
class_of (lexemes.Name n) = naming
class_of (lexemes.Number n) = numeric
class_of (lexemes.String s) = quoting
class_of lexemes.End = punctuation
class_of lexemes.Unexpected = punctuation
class_of lexemes.Unsupported = numeric

unfoldable pub is_punctuation : ℕ → Bool
is_punctuation c =
    ((c == 33 || c == 36) || (c == 38 || c == 40)) || ((c == 41 || c == 46) || (c == 58 || c == 61))
    || (((c == 64 || c == 91) || (c == 93 || c == 123)) || (c == 124 || c == 125))

-- a first character of the class
unfoldable pub begins_class : Class → ℕ → Bool
begins_class punctuation c = is_punctuation c
begins_class naming c = is_name_start c
begins_class numeric c = is_ascii_digit c || c == minus
begins_class quoting c = c == quote

pub class_unique : (k l : Class) (c : ℕ) → begins_class k c ≡ true → begins_class l c ≡ true → k ≡ l
unfolding begins_class is_punctuation
class_unique punctuation punctuation c h i = refl
class_unique punctuation naming c h i = absurd (grind (arith, nat_tests))
class_unique punctuation numeric c h i = absurd (grind (arith, nat_tests))
class_unique punctuation quoting c h i = absurd (grind (arith, nat_tests))
class_unique naming punctuation c h i = absurd (grind (arith, nat_tests))
class_unique naming naming c h i = refl
class_unique naming numeric c h i = absurd (grind (arith, nat_tests))
class_unique naming quoting c h i = absurd (grind (arith, nat_tests))
class_unique numeric punctuation c h i = absurd (grind (arith, nat_tests))
class_unique numeric naming c h i = absurd (grind (arith, nat_tests))
class_unique numeric numeric c h i = refl
class_unique numeric quoting c h i = absurd (grind (arith, nat_tests))
class_unique quoting punctuation c h i = absurd (grind (arith, nat_tests))
class_unique quoting naming c h i = absurd (grind (arith, nat_tests))
class_unique quoting numeric c h i = absurd (grind (arith, nat_tests))
class_unique quoting quoting c h i = refl

whole_begins : (cs : List ℕ) → IsWhole cs → begins (begins_class numeric) cs ≡ true
unfolding begins_class
whole_begins cs (inl e) = ap (begins (begins_class numeric)) e
whole_begins [] (inr h) = h.0.0
whole_begins (c ∷ cs) (inr h) = let digit = h.0.0 in grind (arith, nat_tests)

integer_begins : (cs : List ℕ) → IsInteger cs → begins (begins_class numeric) cs ≡ true
unfolding begins_class
integer_begins cs (inl h) = whole_begins cs h
integer_begins cs (inr h) = ap (begins (begins_class numeric)) h.1

float_begins : (cs : List ℕ) → IsFloat cs → begins (begins_class numeric) cs ≡ true
float_begins cs h = ap (begins (begins_class numeric)) h.2 ∙ begins_front (begins_class numeric) h.0 h.1 (integer_begins h.0 h.3)

pub punctuator_begins : (p : Punctuator) → begins is_punctuation (characters_of p) ≡ true
unfolding is_punctuation
punctuator_begins punctuators.Bang = refl
punctuator_begins punctuators.Dollar = refl
punctuator_begins punctuators.Ampersand = refl
punctuator_begins punctuators.OpenParen = refl
punctuator_begins punctuators.CloseParen = refl
punctuator_begins punctuators.Spread = refl
punctuator_begins punctuators.Colon = refl
punctuator_begins punctuators.Equals = refl
punctuator_begins punctuators.At = refl
punctuator_begins punctuators.OpenBracket = refl
punctuator_begins punctuators.CloseBracket = refl
punctuator_begins punctuators.OpenBrace = refl
punctuator_begins punctuators.Pipe = refl
punctuator_begins punctuators.CloseBrace = refl

-- what a token is written with begins with a character of its class
pub spelling_begins : (l : Lexeme) (cs : List ℕ) → Spells l cs → begins (begins_class (class_of l)) cs ≡ true
unfolding begins_class class_of
spelling_begins (lexemes.Punctuator p) cs h = ap (begins is_punctuation) h ∙ punctuator_begins p
spelling_begins (lexemes.Name n) cs h = name_begins cs h.0
spelling_begins (lexemes.Number n) cs h = integer_begins cs h.0
spelling_begins (lexemes.String s) cs h =
    elim h.1 [ inl k ↦ ap (begins (begins_class quoting)) k.1 | inr k ↦ ap (begins (begins_class quoting)) k.1 ]
spelling_begins lexemes.End cs h = absurd h
spelling_begins lexemes.Unexpected cs h = absurd h
spelling_begins lexemes.Unsupported cs (inl h) = float_begins cs h
spelling_begins lexemes.Unsupported cs (inr h) = integer_begins cs h.0

-- two tokens that begin with one character are of one class
pub same_class : (l m : Lexeme) (p q x y : List ℕ) → Spells l p → Spells m q → p ++ x ≡ q ++ y → class_of l ≡ class_of m
same_class l m p q x y h k e = go p q (spelling_begins l p h) (spelling_begins m q k) e
  where
    go : (a b : List ℕ) → begins (begins_class (class_of l)) a ≡ true → begins (begins_class (class_of m)) b ≡ true → a ++ x ≡ b ++ y → class_of l ≡ class_of m
    go [] b f g i = let k : false ≡ true = f in cc
    go (c ∷ a) [] f g i = let k : false ≡ true = g in cc
    go (c ∷ a) (d ∷ b) f g i = class_unique (class_of l) (class_of m) c f (ap (begins_class (class_of m)) (head_is i) ∙ g)

-- the punctuator that characters spell
punctuator_at : List ℕ → Option Punctuator
punctuator_at [] = None
punctuator_at (c ∷ cs) =
    if c == 33 then Some punctuators.Bang
    else (if c == 36 then Some punctuators.Dollar
    else (if c == 38 then Some punctuators.Ampersand
    else (if c == 40 then Some punctuators.OpenParen
    else (if c == 41 then Some punctuators.CloseParen
    else (if c == 46 then Some punctuators.Spread
    else (if c == 58 then Some punctuators.Colon
    else (if c == 61 then Some punctuators.Equals
    else (if c == 64 then Some punctuators.At
    else (if c == 91 then Some punctuators.OpenBracket
    else (if c == 93 then Some punctuators.CloseBracket
    else (if c == 123 then Some punctuators.OpenBrace
    else (if c == 124 then Some punctuators.Pipe
    else Some punctuators.CloseBrace))))))))))))

punctuator_at_its : (p : Punctuator) → punctuator_at (characters_of p) ≡ Some p
unfolding punctuator_at
punctuator_at_its punctuators.Bang = refl
punctuator_at_its punctuators.Dollar = refl
punctuator_at_its punctuators.Ampersand = refl
punctuator_at_its punctuators.OpenParen = refl
punctuator_at_its punctuators.CloseParen = refl
punctuator_at_its punctuators.Spread = refl
punctuator_at_its punctuators.Colon = refl
punctuator_at_its punctuators.Equals = refl
punctuator_at_its punctuators.At = refl
punctuator_at_its punctuators.OpenBracket = refl
punctuator_at_its punctuators.CloseBracket = refl
punctuator_at_its punctuators.OpenBrace = refl
punctuator_at_its punctuators.Pipe = refl
punctuator_at_its punctuators.CloseBrace = refl

pub punctuator_unique : (p q : Punctuator) → characters_of p ≡ characters_of q → p ≡ q
punctuator_unique p q e =
    let same : Some p ≡ Some q = sym (punctuator_at_its p) ∙ ap punctuator_at e ∙ punctuator_at_its q in cc

-- where a string stands and three quotes, the string is empty
pub string_at_quotes : (v p x y : List ℕ) → IsString v p → p ++ x ≡ three_quotes ++ y → p ≡ quote ∷ quote ∷ []
string_at_quotes [] p x y h e = h.1 ∙ ap (λ l. quote ∷ l ++ quote ∷ []) h.2
string_at_quotes (c ∷ v) p x y h e =
    let w = h.2 in
    absurd (written_not_quote c w.0 (w.1 ++ quote ∷ x) (quote ∷ y) w.3
    (sym (append_assoc w.0 w.1 (quote ∷ x)) ∙ ap (λ l. l ++ quote ∷ x) (sym w.2) ∙ sym (append_assoc h.0 (quote ∷ []) x)
    ∙ tail_is (ap (λ l. l ++ x) (sym h.1) ∙ e)))

pub string_not_block : (v w cs : List ℕ) → IsString v cs → IsBlockString w cs → ⊥
string_not_block v w cs h k =
    let e = string_at_quotes v cs [] (written k.0 ++ three_quotes) h (append-nil cs ∙ k.1) in
    let n = ap length (sym e ∙ k.1) in let m = length-append (written k.0) three_quotes in omega arith

-- a string has one value, however it is spelled
string_value_unique : (v w cs : List ℕ) → IsString v cs ⊎ IsBlockString v cs → IsString w cs ⊎ IsBlockString w cs → v ≡ w
string_value_unique v w cs (inl h) (inl k) = (string_unique v w cs cs [] [] h k refl).0
string_value_unique v w cs (inl h) (inr k) = absurd (string_not_block v w cs h k)
string_value_unique v w cs (inr h) (inl k) = absurd (string_not_block w v cs k h)
string_value_unique v w cs (inr h) (inr k) = (block_unique v w cs cs [] [] h k refl).0

-- an integer is supported or not, and no float
supported_apart : (n : ℤ) (cs : List ℕ) → Spells (lexemes.Number n) cs → Spells lexemes.Unsupported cs → ⊥
supported_apart n cs h (inl k) = integer_not_float cs h.0 k
supported_apart n cs h (inr k) = k.1 (subst IsSupported h.1 h.2)

same_class_unique : (l m : Lexeme) (cs : List ℕ) → Spells l cs → Spells m cs → class_of l ≡ class_of m → l ≡ m
unfolding class_of
same_class_unique lexemes.End b cs f g i = absurd f
same_class_unique lexemes.Unexpected b cs f g i = absurd f
same_class_unique a lexemes.End cs f g i = absurd g
same_class_unique a lexemes.Unexpected cs f g i = absurd g
same_class_unique (lexemes.Punctuator p) (lexemes.Punctuator q) cs f g i = ap lexemes.Punctuator (punctuator_unique p q (sym f ∙ g))
same_class_unique (lexemes.Name n) (lexemes.Name o) cs f g i = ap lexemes.Name (f.1 ∙ sym g.1)
same_class_unique (lexemes.Number n) (lexemes.Number o) cs f g i = ap lexemes.Number (f.1 ∙ sym g.1)
same_class_unique (lexemes.Number n) lexemes.Unsupported cs f g i = absurd (supported_apart n cs f g)
same_class_unique lexemes.Unsupported (lexemes.Number n) cs f g i = absurd (supported_apart n cs g f)
same_class_unique lexemes.Unsupported lexemes.Unsupported cs f g i = refl
same_class_unique (lexemes.String s) (lexemes.String t) cs f g i =
    ap lexemes.String (f.2 ∙ ap encode_utf8_all (string_value_unique f.0 g.0 cs f.1 g.1) ∙ sym g.2)
same_class_unique _ _ cs f g i = cc

-- characters spell one token at most
pub spelling_unique : (l m : Lexeme) (cs : List ℕ) → Spells l cs → Spells m cs → l ≡ m
spelling_unique l m cs h k = same_class_unique l m cs h k (same_class l m cs cs [] [] h k refl)

-- one token at most begins a text
pub token_unique : (l m : Lexeme) (p q x y : List ℕ) → IsToken l p x → IsToken m q y → p ++ x ≡ q ++ y → (l ≡ m) × (p ≡ q) × (x ≡ y)
token_unique l m p q x y h k e = elim (fronts p q x y e) [ inl w ↦ longer w.0 w.1 w.2 | inr w ↦ absurd (k.longest l w.0 w.1 x w.3 (subst (Spells l) w.2 h.spelled)) ]
  where
    longer : (more : List ℕ) → q ≡ p ++ more → x ≡ more ++ y → (l ≡ m) × (p ≡ q) × (x ≡ y)
    longer [] a b =
        let same : q ≡ p = a ∙ append-nil p in (spelling_unique l m p h.spelled (subst (Spells m) same k.spelled), sym same, b)
    longer (c ∷ more) a b = absurd (h.longest m c more y b (subst (Spells m) a k.spelled))
