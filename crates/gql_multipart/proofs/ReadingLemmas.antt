-- Quoted strings and tokens, one character after another.
use Rattle.std.proofs.Common.{◌≡◌, ◌≢◌, ◌∙◌, ℕ, ◌+◌, ◌<◌, ◌==◌, Bool, true, false, ◌&&◌, List, []}
use Rattle.std.proofs.Common.{◌∷◌, length, cond, Option, Some, None, refl, sym, ap, arith, get_or, drop}
use Rattle.std.proofs.Common.{eq-eqb, inl, inr, subst}
use Rattle.std.proofs.lemmas.Bool.{false≢true}
use Rattle.std.proofs.lemmas.Bool.Decides.{eqb_tells}
use Rattle.std.proofs.lemmas.List.{drop_more}
use Rattle.std.proofs.lemmas.List.Sums.{take_while-cons}
use Rattle.std.proofs.lemmas.Option.{none-some, some_pair_parts}
use Rattle.std.specs.List.{prefix_len, take_while}
use Rattle.std.specs.Option.{option_map}
use Rattle.std.specs.Str.{bytes_eq}
use Rattle.gql_multipart.specs.Quoted.{closing, ends, escapes, said, unescaped}
use Rattle.gql_multipart.specs.Token.{is_token_character, token_at}

-- the quote is here
pub closing_here : (text : List ℕ) (escaped : Bool) (place : ℕ) (whole : Option ℕ) →
    place < length text → ends escaped (get_or text place 0) ≡ true →
    option_map (λ n. n + place) (closing escaped (drop place text)) ≡ whole → Some place ≡ whole
closing_here text escaped place whole within here so_far =
    let e : place ≡ 0 + place = omega arith in
    ap Some e ∙ (sym (ap (option_map (λ n. n + place)) first) ∙ so_far)
  where
    first : closing escaped (drop place text) ≡ Some 0
    first = ap (closing escaped) (drop_more text place 0 within)
        ∙ ap (λ b. cond b (Some 0)
        (option_map (λ n. n + 1) (closing (escapes escaped (get_or text place 0)) (drop (place + 1) text)))) here

-- a backslash is no character of a token
no_backslash : is_token_character 92 ≡ false
unfolding is_token_character
no_backslash = refl

token_is_plain : (c : ℕ) → is_token_character c ≡ true → (c == 92) ≡ false
token_is_plain c h = elim (eqb_tells c 92) [
  | inl w ↦ absurd (false≢true (sym no_backslash ∙ (ap is_token_character (sym w.1) ∙ h)))
  | inr w ↦ w.0
]

-- the characters of a token at a text's front say themselves
said_front : (text : List ℕ) →
    said (take_while is_token_character text) ≡ take_while is_token_character text
said_front [] = refl
said_front (c ∷ cs) =
    subst (λ t. said t ≡ t) (sym (take_while-cons is_token_character c cs))
    (go (is_token_character c) refl (said_front cs))
  where
    go : (b : Bool) → is_token_character c ≡ b →
        said (take_while is_token_character cs) ≡ take_while is_token_character cs →
        said (cond b (c ∷ take_while is_token_character cs) [])
        ≡ cond b (c ∷ take_while is_token_character cs) []
    go false e others = refl
    go true e others =
        ap (λ b. cond b (unescaped true (take_while is_token_character cs))
        (c ∷ unescaped false (take_while is_token_character cs))) (token_is_plain c e)
        ∙ ap (λ t. c ∷ t) others

-- a token says itself
pub token_said : (text token rest : List ℕ) → token_at text ≡ Some (token, rest) → said token ≡ token
token_said text token rest h = go (prefix_len is_token_character text == 0) h
  where
    go : (z : Bool) →
        cond {A = Option (List ℕ × List ℕ)} z None
        (Some (take_while is_token_character text, drop (prefix_len is_token_character text) text))
        ≡ Some (token, rest) → said token ≡ token
    go true h = absurd (none-some _ h)
    go false h = subst (λ t. said t ≡ t) ((some_pair_parts _ _ _ _ h).0) (said_front text)

-- a value of one character that is no quote, with its backslashes
pub token_value : (text token rest : List ℕ) → token_at text ≡ Some (token, rest) →
    token_at text ≡ Some (said token, rest)
token_value text token rest h =
    h ∙ ap (λ t. Some (t, rest)) (sym (token_said text token rest h))

-- texts that begin alike
pub begin_alike : (c wanted : ℕ) (rest text more : List ℕ) → text ≡ c ∷ rest → c ≡ wanted →
    bytes_eq text (wanted ∷ more) ≡ bytes_eq rest more
begin_alike c wanted rest text more e same =
    ap (λ t. bytes_eq t (wanted ∷ more)) e ∙ ap (λ b. b && bytes_eq rest more) (eq-eqb c wanted same)

-- texts that begin differently
pub begin_otherwise : (c wanted : ℕ) (rest text more : List ℕ) → text ≡ c ∷ rest → c ≢ wanted →
    bytes_eq text (wanted ∷ more) ≡ false
begin_otherwise c wanted rest text more e other =
    ap (λ t. bytes_eq t (wanted ∷ more)) e ∙ ap (λ b. b && bytes_eq rest more) apart
  where
    apart : (c == wanted) ≡ false
    apart = elim (eqb_tells c wanted) [ inl w ↦ absurd (other w.1) | inr w ↦ w.0 ]

-- nothing begins as a text that isn't empty
pub begin_empty : (wanted : ℕ) (text more : List ℕ) → text ≡ [] → bytes_eq text (wanted ∷ more) ≡ false
begin_empty wanted text more e = ap (λ t. bytes_eq t (wanted ∷ more)) e

pub ruleset beginning = (begin_alike, begin_otherwise, begin_empty)
