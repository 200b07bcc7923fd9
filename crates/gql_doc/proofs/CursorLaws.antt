-- What the takes of the cursor read.
use Rattle.std.proofs.Common.{◌≡◌, ℕ, zero, suc, ◌-◌, ◌<◌, Bool, true, false, List, [], ◌∷◌, Option, Some, None, Ok, Err, refl, sym, ap, ◌∙◌, arith}
use Rattle.gql_base.specs.declared.pos.Pos.{Pos}
use Rattle.gql_tokens.specs.declared.token.Token.{Token}
use Rattle.gql_tokens.specs.declared.token.Lexeme.{Lexeme}
use Rattle.gql_tokens.specs.declared.token.Lexeme.TheVariants as lexeme
use Rattle.gql_tokens.specs.declared.token.Punctuator.{Punctuator}
use Rattle.gql_doc.specs.declared.trouble.Trouble.TheVariants.{Unexpected, TooDeep}
use Rattle.gql_tokens.proofs.TokenFronts.{tokens_left}
use Rattle.gql_doc.specs.Words.{Tokens}
use Rattle.gql_doc.specs.Readers.{Reading, begins, behind_first, choose, gives, place_of, picked, take_one}
use Rattle.gql_doc.specs.Drafting.{taken_if, opened, open_at, scalar, scalar_in}
use Rattle.std.specs.Prelude.{not, ◌&&◌, codes}
use Rattle.gql_doc.specs.declared.document.OperationType.{OperationType}
use Rattle.gql_doc.specs.declared.cursor.Opened.{Opened}
use Rattle.gql_doc.specs.declared.document.DocValue.{DocValue}
use Rattle.gql_doc.specs.Reading.{is_sign, is_word, is_name, is_fragment_name, is_scalar, is_end, says_name, says_word, says_scalar, if_so, with_pos, name_in, fragment_name_in, next_operation, take_sign, take_word, take_name, take_fragment_name, take_operation, take_end}

-- where no token was read, none is left
pub nothing_left : (before : Option Token) (place : Pos) (text : List ℕ) (old : Tokens) → before ≡ None → tokens_left before place text ≡ old
    → begins (λ _. true) old ≡ true → ⊥
nothing_left before place text old none is some =
    let no_token : false ≡ true = sym (ap (begins (λ _. true)) (sym is ∙ ap (λ o. tokens_left o place text) none)) ∙ some in cc

pub sign_taken : (sign : Punctuator) (tokens : Tokens) → begins (is_sign sign) tokens ≡ true → take_sign sign tokens ≡ (Ok (place_of tokens), behind_first tokens)
unfolding take_sign
sign_taken sign [] next = absurd (cc next)
sign_taken sign (token ∷ tokens) next = ap (λ b. picked (if_so b token.pos) token tokens) next

pub sign_missed : (sign : Punctuator) (tokens : Tokens) → begins (is_sign sign) tokens ≡ false → take_sign sign tokens ≡ (Err Unexpected, tokens)
unfolding take_sign
sign_missed sign [] next = refl
sign_missed sign (token ∷ tokens) next = ap (λ b. picked (if_so b token.pos) token tokens) next

pub word_taken : (word : List ℕ) (tokens : Tokens) → begins (is_word word) tokens ≡ true → take_word word tokens ≡ (Ok (place_of tokens), behind_first tokens)
unfolding take_word
word_taken word [] next = absurd (cc next)
word_taken word (token ∷ tokens) next = ap (λ b. picked (if_so b token.pos) token tokens) next

pub word_missed : (word : List ℕ) (tokens : Tokens) → begins (is_word word) tokens ≡ false → take_word word tokens ≡ (Err Unexpected, tokens)
unfolding take_word
word_missed word [] next = refl
word_missed word (token ∷ tokens) next = ap (λ b. picked (if_so b token.pos) token tokens) next

pub name_taken : (old new : Tokens) (token : Token) (text : List ℕ) → old ≡ token ∷ new → token.lexeme ≡ lexeme.Name text → take_name old ≡ (Ok (record { pos = token.pos; node = text }), new)
unfolding take_name
name_taken old new token text e says = ap (take_one (λ t. name_in t.lexeme t.pos)) e ∙ ap (λ l. picked (name_in l token.pos) token new) says

pub name_missed : (tokens : Tokens) → begins is_name tokens ≡ false → take_name tokens ≡ (Err Unexpected, tokens)
unfolding take_name
name_missed [] next = refl
name_missed (token ∷ tokens) next = ap (λ o. picked o token tokens) (none token.lexeme token.pos next)
  where
    none : (l : Lexeme) (pos : Pos) → says_name l ≡ false → name_in l pos ≡ None
    none (lexeme.Punctuator found) pos e = refl
    none (lexeme.Name text) pos e = absurd (cc e)
    none (lexeme.Number number) pos e = refl
    none (lexeme.String text) pos e = refl
    none lexeme.End pos e = refl
    none lexeme.Unexpected pos e = refl
    none lexeme.Unsupported pos e = refl

pub fragment_name_taken : (tokens : Tokens) → begins is_fragment_name tokens ≡ true → take_fragment_name tokens ≡ take_name tokens
unfolding take_name take_fragment_name
fragment_name_taken [] next = absurd (cc next)
fragment_name_taken (token ∷ tokens) next = ap (λ o. picked o token tokens) (same token.lexeme token.pos next)
  where
    same : (l : Lexeme) (pos : Pos) → (says_name l && not (says_word (codes "on") l)) ≡ true → fragment_name_in l pos ≡ name_in l pos
    same (lexeme.Punctuator found) pos e = refl
    same (lexeme.Name text) pos e = ap (λ b. if_so b (record { pos = pos; node = text })) e
    same (lexeme.Number number) pos e = refl
    same (lexeme.String text) pos e = refl
    same lexeme.End pos e = refl
    same lexeme.Unexpected pos e = refl
    same lexeme.Unsupported pos e = refl

pub fragment_name_missed : (tokens : Tokens) → begins is_fragment_name tokens ≡ false → take_fragment_name tokens ≡ (Err Unexpected, tokens)
unfolding take_fragment_name
fragment_name_missed [] next = refl
fragment_name_missed (token ∷ tokens) next = ap (λ o. picked o token tokens) (none token.lexeme token.pos next)
  where
    none : (l : Lexeme) (pos : Pos) → (says_name l && not (says_word (codes "on") l)) ≡ false → fragment_name_in l pos ≡ None
    none (lexeme.Punctuator found) pos e = refl
    none (lexeme.Name text) pos e = ap (λ b. if_so b (record { pos = pos; node = text })) e
    none (lexeme.Number number) pos e = refl
    none (lexeme.String text) pos e = refl
    none lexeme.End pos e = refl
    none lexeme.Unexpected pos e = refl
    none lexeme.Unsupported pos e = refl

pub scalar_taken : (old new : Tokens) (token : Token) (value : DocValue) → old ≡ token ∷ new → Some value ≡ scalar_in token.lexeme → scalar old ≡ (Ok value, new)
unfolding scalar
scalar_taken old new token value e k = ap (take_one (λ t. scalar_in t.lexeme)) e ∙ ap (λ o. picked o token new) (sym k)

scalar_or_not : (l : Lexeme) → says_scalar l ≡ false → scalar_in l ≡ None
scalar_or_not (lexeme.Punctuator found) e = refl
scalar_or_not (lexeme.Name text) e = absurd (cc e)
scalar_or_not (lexeme.Number number) e = absurd (cc e)
scalar_or_not (lexeme.String text) e = absurd (cc e)
scalar_or_not lexeme.End e = refl
scalar_or_not lexeme.Unexpected e = refl
scalar_or_not lexeme.Unsupported e = refl

pub scalar_missed : (tokens : Tokens) → begins is_scalar tokens ≡ false → scalar tokens ≡ (Err Unexpected, tokens)
unfolding scalar
scalar_missed [] next = refl
scalar_missed (token ∷ tokens) next = ap (λ o. picked o token tokens) (scalar_or_not token.lexeme next)

scalar_is : (l : Lexeme) → says_scalar l ≡ true → None ≡ scalar_in l → ⊥
scalar_is (lexeme.Punctuator found) e k = cc e
scalar_is (lexeme.Name text) e k = cc k
scalar_is (lexeme.Number number) e k = cc k
scalar_is (lexeme.String text) e k = cc k
scalar_is lexeme.End e k = cc e
scalar_is lexeme.Unexpected e k = cc e
scalar_is lexeme.Unsupported e k = cc e

pub scalar_sure : (old new : Tokens) (token : Token) → begins is_scalar old ≡ true → old ≡ token ∷ new → None ≡ scalar_in token.lexeme → ⊥
scalar_sure old new token next e k = scalar_is token.lexeme (sym (ap (begins is_scalar) e) ∙ next) k

pub operation_taken : (tokens : Tokens) (kind : OperationType) → next_operation tokens ≡ Some kind → take_operation tokens ≡ (Ok (place_of tokens, kind), behind_first tokens)
unfolding take_operation
operation_taken [] kind next = absurd (cc next)
operation_taken (token ∷ tokens) kind next = ap (λ o. picked (with_pos token.pos o) token tokens) next

pub operation_missed : (tokens : Tokens) → next_operation tokens ≡ None → take_operation tokens ≡ (Err Unexpected, tokens)
unfolding take_operation
operation_missed [] next = refl
operation_missed (token ∷ tokens) next = ap (λ o. picked (with_pos token.pos o) token tokens) next

pub end_taken : (tokens : Tokens) → begins is_end tokens ≡ true → take_end tokens ≡ (Ok (place_of tokens), behind_first tokens)
unfolding take_end
end_taken [] next = absurd (cc next)
end_taken (token ∷ tokens) next = ap (λ b. picked (if_so b token.pos) token tokens) next

pub end_missed : (tokens : Tokens) → begins is_end tokens ≡ false → take_end tokens ≡ (Err Unexpected, tokens)
unfolding take_end
end_missed [] next = refl
end_missed (token ∷ tokens) next = ap (λ b. picked (if_so b token.pos) token tokens) next

-- Tokens that may be next.

pub one_there : (test : Token → Bool) (tokens : Tokens) → begins test tokens ≡ true → taken_if test tokens ≡ (Ok true, behind_first tokens)
unfolding taken_if
one_there test tokens next = ap (λ b. choose b (λ here. (Ok true, behind_first here)) (λ here. (Ok false, here)) tokens) next

pub not_there : (test : Token → Bool) (tokens : Tokens) → begins test tokens ≡ false → taken_if test tokens ≡ (Ok false, tokens)
unfolding taken_if
not_there test tokens next = ap (λ b. choose b (λ here. (Ok true, behind_first here)) (λ here. (Ok false, here)) tokens) next

pub not_opened : (sign : Punctuator) (levels : ℕ) (tokens : Tokens) → begins (is_sign sign) tokens ≡ false → open_at sign levels tokens ≡ (Ok None, tokens)
unfolding open_at
not_opened sign levels tokens next = ap (λ b. choose b (opened levels) (gives None) tokens) next

pub none_left : (sign : Punctuator) (levels : ℕ) (tokens : Tokens) → begins (is_sign sign) tokens ≡ true → levels ≡ 0 → open_at sign levels tokens ≡ (Err TooDeep, tokens)
unfolding open_at
none_left sign levels tokens next none = ap (λ b. choose b (opened levels) (gives None) tokens) next ∙ ap (λ n. opened n tokens) none

abbrev at_level : Tokens → ℕ → Reading (Option Opened)
at_level tokens n = (Ok (Some (record { pos = place_of tokens; levels = n })), behind_first tokens)

pub opened_one : (sign : Punctuator) (levels : ℕ) (tokens : Tokens) → begins (is_sign sign) tokens ≡ true → 0 < levels
    → open_at sign levels tokens ≡ (Ok (Some (record { pos = place_of tokens; levels = levels - 1 })), behind_first tokens)
unfolding open_at
opened_one sign zero tokens next some = absurd (omega arith)
opened_one sign (suc n) tokens next some =
    ap (λ b. choose b (opened (suc n)) (gives None) tokens) next
    ∙ (let e : n ≡ suc n - 1 = omega arith in ap (at_level tokens) e)
