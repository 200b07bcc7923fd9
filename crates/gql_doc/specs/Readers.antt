-- Readers: what recursive descent with one token of sight answers for the tokens that are left. A
-- reading is a value or the trouble, with the tokens after the value, or those from the trouble
-- on.
use Rattle.std.specs.Prelude.{◌≡◌, ℕ, zero, suc, Bool, true, false, List, [], ◌∷◌, length, Option}
use Rattle.std.specs.Prelude.{Some, None}
use Rattle.std.specs.Prelude.{Result, Ok, Err}
use Rattle.gql_base.specs.declared.pos.Pos.{Pos}
use Rattle.gql_tokens.specs.declared.token.Token.{Token}
use Rattle.gql_doc.specs.declared.trouble.Trouble.{Trouble}
use Rattle.gql_doc.specs.declared.trouble.Trouble.TheVariants.{Unexpected, TooDeep}
use Rattle.gql_doc.specs.declared.trouble.ReadError.{ReadError}
use Rattle.gql_doc.specs.declared.trouble.ReadError.TheVariants.{Memory, Stopped}
use Rattle.gql_doc.specs.Words.{Tokens}

infixl 5 ◌then◌
abbrev pub Reading : Type 0 → Type 0
Reading A = Result A Trouble × Tokens

abbrev pub Reader : Type 0 → Type 0
Reader A = Tokens → Reading A

-- goes on after a value, and stops at trouble
abbrev pub go_on : {A B : Type 0} → Result A Trouble → Tokens → (A → Reader B) → Reading B
go_on (Ok a) rest next = next a rest
go_on (Err trouble) rest next = (Err trouble, rest)

-- one reader, and then the one that its value names
abbrev pub ◌then◌ : {A B : Type 0} → Reader A → (A → Reader B) → Reader B
(f then next) tokens = go_on (f tokens).0 (f tokens).1 next

-- takes nothing
abbrev pub gives : {A : Type 0} → A → Reader A
gives a tokens = (Ok a, tokens)

abbrev pub mapped : {A B : Type 0} → (A → B) → Reader A → Reader B
mapped h f = f then (λ a. gives (h a))

-- the second, after the first
abbrev pub past : {A B : Type 0} → Reader A → Reader B → Reader B
past f g = f then (λ _. g)

-- the first, with the second after it
abbrev pub ended : {A B : Type 0} → Reader A → Reader B → Reader A
ended f g = f then (λ a. mapped (λ _. a) g)

-- the first token passes a test
abbrev pub begins : (Token → Bool) → Tokens → Bool
begins test [] = false
begins test (token ∷ tokens) = test token

-- the next token
abbrev pub first : Tokens → Option Token
first [] = None
first (token ∷ tokens) = Some token

-- the tokens after the next
abbrev pub behind_first : Tokens → Tokens
behind_first [] = []
behind_first (token ∷ tokens) = tokens

-- takes a token that is picked
abbrev pub picked : {A : Type 0} → Option A → Token → Reader A
picked (Some a) token tokens = (Ok a, tokens)
picked None token tokens = (Err Unexpected, token ∷ tokens)

abbrev pub take_one : {A : Type 0} → (Token → Option A) → Reader A
take_one pick [] = (Err Unexpected, [])
take_one pick (token ∷ tokens) = picked (pick token) token tokens

abbrev pub choose : {A : Type 0} → Bool → Reader A → Reader A → Reader A
choose true f g = f
choose false f g = g

-- the first where the next token passes the test, else the second
abbrev pub branch : {A : Type 0} → (Token → Bool) → Reader A → Reader A → Reader A
branch test f g tokens = choose (begins test tokens) f g tokens

-- as often as the next token passes the test, but at most so often
unfoldable pub many_at : {A : Type 0} → ℕ → (Token → Bool) → Reader A → Reader (List A)
many_at zero test f tokens = (Ok [], tokens)
many_at (suc n) test f tokens =
    choose (begins test tokens) (f then (λ a. mapped (λ more. a ∷ more) (many_at n test f)))
    (gives []) tokens

-- as often as the next token passes the test
unfoldable pub many : {A : Type 0} → (Token → Bool) → Reader A → Reader (List A)
many test f tokens = many_at (length tokens) test f tokens

-- once, and then as often as the next token passes the test
abbrev pub some : {A : Type 0} → (Token → Bool) → Reader A → Reader (List A)
some test f = f then (λ a. mapped (λ more. a ∷ more) (many test f))

-- nothing where the next token doesn't pass the test
abbrev pub optional : {A : Type 0} → (Token → Bool) → Reader A → Reader (Option A)
optional test f = branch test (mapped Some f) (gives None)

-- the place of the next token
abbrev pub place_of : Tokens → Pos
place_of [] = record { line = 1; column = 1 }
place_of (token ∷ tokens) = token.pos

-- with the place of the first token
abbrev pub placed : {A B : Type 0} → (Pos → A → B) → Reader A → Reader B
placed make f tokens = mapped (make (place_of tokens)) f tokens

-- where no level is left: an opening token is too deep
abbrev pub too_deep : {A : Type 0} → (Token → Bool) → Reader A
too_deep opens tokens = choose (begins opens tokens) (λ here. (Err TooDeep, here))
    (λ here. (Err Unexpected, here)) tokens

-- What a function returned, and the tokens that it left, are the reading; but out of memory says
-- nothing.
abbrev pub Leaves : {A : Type 0} → Result A ReadError → Tokens → Reading A → Type 0
Leaves (Ok a) left reading = reading ≡ (Ok a, left)
Leaves (Err Memory) left reading = Unit {0}
Leaves (Err (Stopped trouble)) left reading = reading ≡ (Err trouble, left)
