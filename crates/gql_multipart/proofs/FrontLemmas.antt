-- The characters at a text's front that pass a test.
use Rattle.std.proofs.Common.{◌≡◌, ◌∙◌, ℕ, ◌+◌, ◌≤◌, ◌==◌, Bool, true, false, ◌||◌, List, [], ◌∷◌, ◌++◌}
use Rattle.std.proofs.Common.{Some, None, refl, sym, ap, subst, arith, cond, take, drop, one-add, ne_eqb}
use Rattle.std.proofs.Common.{take_at, drop_at, length}
use Rattle.std.proofs.lemmas.Bool.{false≢true}
use Rattle.std.proofs.lemmas.List.Sums.{prefix_len-le-length, suffix_len-le-length, take_while-cons}
use Rattle.std.specs.List.{AllByRecursion, prefix_len, suffix_len, take_while}
use Rattle.gql_multipart.specs.Grammar.{AreBlanks, IsToken}
use Rattle.gql_multipart.specs.Token.{is_blank, is_token_character, token_at, unspaced}

-- a front is within its text, and so is an end
pub front_within : (p : ℕ → Bool) (text : List ℕ) → prefix_len p text ≤ length text
front_within p text = prefix_len-le-length p text

pub end_within : (p : ℕ → Bool) (text : List ℕ) → suffix_len p text ≤ length text
end_within p text = suffix_len-le-length p text

-- each of these passes
abbrev pub Pass : (ℕ → Bool) → List ℕ → Type 0
Pass p text = AllByRecursion (λ c. p c ≡ true) text

-- whether the first passes
abbrev pub begins : (ℕ → Bool) → List ℕ → Bool
begins p [] = false
begins p (c ∷ cs) = p c

pub front_passes : (p : ℕ → Bool) (text : List ℕ) → Pass p (take_while p text)
front_passes p [] = tt
front_passes p (c ∷ cs) =
    subst (Pass p) (sym (take_while-cons p c cs)) (go (p c) refl (front_passes p cs))
  where
    go : (b : Bool) → p c ≡ b → Pass p (take_while p cs) → Pass p (cond b (c ∷ take_while p cs) [])
    go true e others = (e, others)
    go false e others = tt

none_passes : (p : ℕ → Bool) (rest : List ℕ) → begins p rest ≡ false → prefix_len p rest ≡ 0
none_passes p [] h = refl
none_passes p (c ∷ cs) h = ap (λ b. cond b (1 + prefix_len p cs) 0) h

-- the front ends where one doesn't pass
pub front_length : (p : ℕ → Bool) (front rest : List ℕ) → Pass p front → begins p rest ≡ false →
    prefix_len p (front ++ rest) ≡ length front
front_length p [] rest all stop = none_passes p rest stop
front_length p (c ∷ cs) rest all stop =
    ap (λ b. cond b (1 + prefix_len p (cs ++ rest)) 0) all.0
    ∙ (ap (λ n. 1 + n) (front_length p cs rest all.1 stop) ∙ one-add (length cs))

pub empty_of : (text : List ℕ) → length text ≡ 0 → text ≡ []
empty_of [] h = refl
empty_of (c ∷ cs) h = absurd (omega arith)

-- a token is read again, whatever no character of a token stands after it
pub token_again : (token rest : List ℕ) → IsToken token → begins is_token_character rest ≡ false →
    token_at (token ++ rest) ≡ Some (token, rest)
token_again token rest is stop =
    ap (λ n. cond (n == 0) None (Some (take n (token ++ rest), drop n (token ++ rest))))
    (front_length is_token_character token rest is.1 stop)
    ∙ (ap (λ b. cond b None (Some (take (length token) (token ++ rest), drop (length token) (token ++ rest)))) some
    ∙ (ap (λ t. Some (t, drop (length token) (token ++ rest))) (take_at token rest (length token) refl)
    ∙ ap (λ t. Some (token, t)) (drop_at token rest (length token) refl)))
  where
    some : (length token == 0) ≡ false
    some = ne_eqb (length token) 0 (λ e. is.0 (empty_of token e))

-- after blanks comes what begins with none
pub unspaced_again : (blanks rest : List ℕ) → AreBlanks blanks → begins is_blank rest ≡ false →
    unspaced (blanks ++ rest) ≡ rest
unspaced_again blanks rest are stop =
    ap (λ n. drop n (blanks ++ rest)) (front_length is_blank blanks rest are stop)
    ∙ drop_at blanks rest (length blanks) refl

-- of a token's character
tokens_no_tab : is_token_character 9 ≡ false
unfolding is_token_character
tokens_no_tab = refl

tokens_no_blank : is_token_character 32 ≡ false
unfolding is_token_character
tokens_no_blank = refl

tokens_no_quote : is_token_character 34 ≡ false
unfolding is_token_character
tokens_no_quote = refl

pub tokens_no_slash : is_token_character 47 ≡ false
unfolding is_token_character
tokens_no_slash = refl

pub tokens_no_semicolon : is_token_character 59 ≡ false
unfolding is_token_character
tokens_no_semicolon = refl

pub tokens_no_equals : is_token_character 61 ≡ false
unfolding is_token_character
tokens_no_equals = refl

-- a character of a token is none that isn't
other_than : (c d : ℕ) → is_token_character c ≡ true → is_token_character d ≡ false → (c == d) ≡ false
other_than c d h k = ne_eqb c d (λ e. false≢true (sym k ∙ (ap is_token_character (sym e) ∙ h)))

pub token_no_quote : (c : ℕ) → is_token_character c ≡ true → (c == 34) ≡ false
token_no_quote c h = other_than c 34 h tokens_no_quote

pub token_no_blank : (c : ℕ) → is_token_character c ≡ true → is_blank c ≡ false
token_no_blank c h =
    ap (λ b. b || c == 32) (other_than c 9 h tokens_no_tab) ∙ other_than c 32 h tokens_no_blank

pub blank_no_token : (c : ℕ) → is_blank c ≡ true → is_token_character c ≡ false
blank_no_token c h = go (is_token_character c) refl
  where
    go : (b : Bool) → is_token_character c ≡ b → b ≡ false
    go true e = absurd (false≢true (sym (token_no_blank c e) ∙ h))
    go false e = refl

-- what begins with a token begins with no blank
pub token_begins : (token rest : List ℕ) → IsToken token → begins is_blank (token ++ rest) ≡ false
token_begins [] rest is = absurd (is.0 refl)
token_begins (c ∷ cs) rest is = token_no_blank c is.1.0
