-- What stands after a part of the grammar, as far as one token of sight shows it.
use Rattle.std.proofs.Common.{◌≡◌, ℕ, true, false, not, List, [], ◌∷◌, ◌++◌, Some, None, refl, sym, ap, ◌∙◌, subst, append_assoc}
use denote.Enum.Bare.{sameb}
use Rattle.gql_base.specs.declared.pos.Pos.{Pos}
use Rattle.gql_tokens.specs.declared.token.Lexeme.{Lexeme}
use Rattle.gql_tokens.specs.declared.token.Lexeme.TheVariants as lexeme
use Rattle.gql_tokens.specs.declared.token.Punctuator.{Punctuator}
use Rattle.gql_tokens.specs.contracts.token.Punctuator as punctuator
use Rattle.gql_doc.specs.Words.{Tokens, Word, Language, tokens_of, Each, Maybe, One, SignAt, OpensAt}
use Rattle.gql_doc.specs.Grammar.{IsName}
use Rattle.gql_doc.specs.Readers.{begins}
use Rattle.gql_doc.specs.Reading.{is_sign, says_sign, is_name, other_than}
use Rattle.gql_doc.proofs.ReaderLaws.{Always, Seq, Map, tokens_of-append}
use Rattle.gql_doc.proofs.TokenLaws.{sign_is, sign_same}

-- the next token is this sign
abbrev pub NextIs : Punctuator → Tokens → Type 0
NextIs sign rest = begins (is_sign sign) rest ≡ true

abbrev pub NextIsName : Tokens → Type 0
NextIsName rest = begins is_name rest ≡ true

-- the next token is none of these signs
abbrev pub Never : List Punctuator → Tokens → Type 0
Never [] rest = Unit {0}
Never (sign ∷ signs) rest = (begins (is_sign sign) rest ≡ false) × Never signs rest

-- the sign is none of these
abbrev pub NoneOf : List Punctuator → Punctuator → Type 0
NoneOf [] sign = Unit {0}
NoneOf (other ∷ others) sign = (sameb punctuator.the_type sign other ≡ false) × NoneOf others sign

pub other_sign : (sign other : Punctuator) (rest : Tokens) → sameb punctuator.the_type sign other ≡ false → NextIs sign rest → begins (is_sign other) rest ≡ false
other_sign sign other [] e next = refl
other_sign sign other (t ∷ rest) e next = ap (says_sign other) (sign_is sign t.lexeme next) ∙ e

pub never_next : (signs : List Punctuator) (sign : Punctuator) (rest : Tokens) → NoneOf signs sign → NextIs sign rest → Never signs rest
never_next [] sign rest others next = tt
never_next (other ∷ signs) sign rest others next = (other_sign sign other rest others.0 next, never_next signs sign rest others.1 next)

no_sign : (other : Punctuator) (l : Lexeme) → begins is_name (record { lexeme = l; pos = record { line = 1; column = 1 } } ∷ []) ≡ true → says_sign other l ≡ false
no_sign other (lexeme.Punctuator found) e = absurd (cc e)
no_sign other (lexeme.Name text) e = refl
no_sign other (lexeme.Number number) e = absurd (cc e)
no_sign other (lexeme.String text) e = absurd (cc e)
no_sign other lexeme.End e = absurd (cc e)
no_sign other lexeme.Unexpected e = absurd (cc e)
no_sign other lexeme.Unsupported e = absurd (cc e)

pub never_name : (signs : List Punctuator) (rest : Tokens) → NextIsName rest → Never signs rest
never_name [] rest next = tt
never_name (other ∷ signs) [] next = absurd (cc next)
never_name (other ∷ signs) (t ∷ rest) next = (no_sign other t.lexeme next, never_name signs (t ∷ rest) next)

pub other_is : (sign : Punctuator) (rest : Tokens) → NextIs sign rest → begins (other_than sign) rest ≡ false
other_is sign [] next = refl
other_is sign (t ∷ rest) next = ap not next

pub none_is : (sign other : Punctuator) (rest : Tokens) → sameb punctuator.the_type sign other ≡ false → NextIs sign rest → begins (other_than other) rest ≡ true
none_is sign other [] e next = absurd (cc next)
none_is sign other (t ∷ rest) e next = ap not (other_sign sign other (t ∷ rest) e next)

pub name_is_other : (other : Punctuator) (rest : Tokens) → NextIsName rest → begins (other_than other) rest ≡ true
name_is_other other [] next = absurd (cc next)
name_is_other other (t ∷ rest) next = ap not (no_sign other t.lexeme next)

-- A word, and what follows it: where the one stands after, the other begins.
abbrev pub Before : {A : Type 0} → (A → Language) → (Tokens → Type 0) → (Tokens → Type 0) → Type 0
Before {A} D G F = (v : A) (ms : Word) (rest : Tokens) → D v ms → G rest → F (tokens_of ms ++ rest)

pub joined : (F : Tokens → Type 0) (ms x y : Word) (rest : Tokens) → ms ≡ x ++ y → F (tokens_of x ++ (tokens_of y ++ rest)) → F (tokens_of ms ++ rest)
joined F ms x y rest e h =
    subst F (sym (ap (λ w. tokens_of w ++ rest) e ∙ ap (λ ts. ts ++ rest) (tokens_of-append x y) ∙ append_assoc (tokens_of x) (tokens_of y) rest)) h

pub before_seq : {A B : Type 0} → (P : A → Language) (Q : A → B → Language) (G H F : Tokens → Type 0) → Before P H F → ((a : A) → Before (Q a) G H) → Before (Seq P Q) G F
before_seq P Q G H F one other v ms rest (a, x, y, e, p, q) after = joined F ms x y rest e (one a x (tokens_of y ++ rest) p (other a v y rest q after))

pub before_map : {A B : Type 0} → (h : A → B) (P : A → Language) (G F : Tokens → Type 0) → Before P G F → Before (Map h P) G F
before_map h P G F one v ms rest (a, k, p) after = one a ms rest p after

pub before_each : {A : Type 0} → (D : A → Language) (G F : Tokens → Type 0) → Before D Always F → ((rest : Tokens) → G rest → F rest) → Before (Each D) G F
before_each D G F one weaker [] ms rest nil after = subst (λ w. F (tokens_of w ++ rest)) (sym nil) (weaker rest after)
before_each D G F one weaker (v ∷ vs) ms rest (x, y, e, d, ds) after = joined F ms x y rest e (one v x (tokens_of y ++ rest) d tt)

pub before_maybe : {A : Type 0} → (D : A → Language) (G F : Tokens → Type 0) → Before D Always F → ((rest : Tokens) → G rest → F rest) → Before (Maybe D) G F
before_maybe D G F one weaker None ms rest nil after = subst (λ w. F (tokens_of w ++ rest)) (sym nil) (weaker rest after)
before_maybe D G F one weaker (Some v) ms rest d after = one v ms rest d tt

pub sign_next : (sign : Punctuator) (G : Tokens → Type 0) → Before (SignAt sign) G (NextIs sign)
sign_next sign G pos ms rest here after = subst (λ w. NextIs sign (tokens_of w ++ rest)) (sym here) (sign_same sign)

pub before_one : (l : Lexeme) (F : Tokens → Type 0) → ((pos : Pos) (rest : Tokens) → F (record { lexeme = l; pos = pos } ∷ rest)) → (ms : Word) (rest : Tokens) → One l ms → F (tokens_of ms ++ rest)
before_one l F all ms rest (pos, here) = subst (λ w. F (tokens_of w ++ rest)) (sym here) (all pos rest)

pub opens_next : (levels : ℕ) (sign : Punctuator) (pos : Pos) (ms : Word) (rest : Tokens) → OpensAt levels sign pos ms → NextIs sign (tokens_of ms ++ rest)
opens_next levels sign pos ms rest here = subst (λ w. NextIs sign (tokens_of w ++ rest)) (sym here) (sign_same sign)

pub before_name : (G : Tokens → Type 0) → Before IsName G NextIsName
before_name G name ms rest here after = subst (λ w. NextIsName (tokens_of w ++ rest)) (sym here) refl
