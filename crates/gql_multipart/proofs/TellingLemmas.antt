-- What parameters say, one after another.
use Rattle.std.proofs.Common.{◌≡◌, ◌∙◌, ℕ, zero, suc, ◌<◌, ◌≤◌, Bool, true, false, List, [], ◌∷◌, length}
use Rattle.std.proofs.Common.{cond, Option, Some, None, refl, sym, ap, arith, codes}
use Rattle.std.specs.Option.{option_map, option_or}
use Rattle.std.specs.Str.{bytes_eq, str_eq_ignore_ascii_case}
use Rattle.gql_multipart.specs.Parameter.{Given, parameter_at, parameters_in, value_named}
use Rattle.gql_multipart.specs.Quality.{quality}
use Rattle.gql_multipart.specs.Step.{◌>>=◌}
use Rattle.gql_multipart.specs.Told.{told_and, told_of}
use Rattle.gql_multipart.specs.declared.told.Told.{Told}

-- what one parameter tells or leaves to the others
one_or_others : {A B : Type 0} (f : A → B) (b : Bool) (value : A) (others : Option A) →
    option_or (option_map f (cond b (Some value) None)) (option_map f others)
    ≡ option_map f (cond b (Some value) others)
one_or_others f true value others = refl
one_or_others f false value others = refl

-- the first that is known counts
first_known : {B : Type 0} (known one others all : Option B) → option_or one others ≡ all →
    option_or (option_or known one) others ≡ option_or known all
first_known None one others all h = h
first_known (Some x) one others all h = refl

-- what is known stays, where nothing else is
known_alone : {B : Type 0} (known : Option B) → option_or known None ≡ known
known_alone None = refl
known_alone (Some x) = refl

-- a name's value, of one parameter and others
named_or : {B : Type 0} (f : List ℕ → B) (known : Option B) (name : List ℕ) (p : Given) (ps : List Given) →
    option_or (option_or known (option_map f (value_named name (p ∷ [])))) (option_map f (value_named name ps))
    ≡ option_or known (option_map f (value_named name (p ∷ ps)))
named_or f known name p ps =
    first_known known _ _ _
    (one_or_others f (str_eq_ignore_ascii_case p.name name) p.value (value_named name ps))

-- what was told with one parameter, and then with others
told_step : (told : Told) (p : Given) (ps : List Given) →
    told_and (told_and told (p ∷ [])) ps ≡ told_and told (p ∷ ps)
told_step told p ps = λ i. record {
  boundary = boundary i;
  specification = specification i;
  q = q i;
}
  where
    boundary : (told_and (told_and told (p ∷ [])) ps).boundary ≡ (told_and told (p ∷ ps)).boundary
    boundary = named_or (λ value. bytes_eq value (codes "graphql")) told.boundary (codes "boundary") p ps

    specification : (told_and (told_and told (p ∷ [])) ps).specification ≡ (told_and told (p ∷ ps)).specification
    specification = named_or (λ value. bytes_eq value (codes "1.0")) told.specification (codes "subscriptionSpec") p ps

    q : (told_and (told_and told (p ∷ [])) ps).q ≡ (told_and told (p ∷ ps)).q
    q = named_or quality told.q (codes "q") p ps

-- what was told, with nothing more
told_end : (told : Told) → told_and told [] ≡ told
told_end told = λ i. record {
  boundary = known_alone told.boundary i;
  specification = known_alone told.specification i;
  q = known_alone told.q i;
}

-- what was told, with what is left, comes to all that is told
pub record IsGoing (told : Told) (rest : List ℕ) (whole : Option Told) : Type 0 where
  pub most : ℕ
  pub enough : length rest ≤ most
  pub same : option_map (told_and told) (parameters_in most rest) ≡ whole

-- all is left at first
pub going_first : (text : List ℕ) →
    IsGoing (told_of []) text (option_map told_of (parameters_in (length text) text))
going_first text = record { most = length text; enough = omega arith; same = refl }

-- what is read where one was
abbrev behind_one : ℕ → Option (Given × List ℕ) → Option (List Given)
behind_one most found =
    found >>= λ x. option_map (λ others. x.0 ∷ others) (parameters_in most x.1)

-- one parameter before others
told_others : (told : Told) (p : Given) (others : Option (List Given)) →
    option_map (told_and (told_and told (p ∷ []))) others
    ≡ option_map (told_and told) (option_map (λ ps. p ∷ ps) others)
told_others told p None = refl
told_others told p (Some ps) = ap Some (told_step told p ps)

-- one parameter further
pub going_more : (told : Told) (rest more : List ℕ) (p : Given) (whole : Option Told) →
    0 < length rest → length more < length rest → parameter_at rest ≡ Some (p, more) →
    IsGoing told rest whole → IsGoing (told_and told (p ∷ [])) more whole
going_more told [] more p whole some shorter read going = absurd (omega arith)
going_more told (c ∷ cs) more p whole some shorter read going =
    go going.most going.enough going.same
  where
    go : (most : ℕ) → length (c ∷ cs) ≤ most →
        option_map (told_and told) (parameters_in most (c ∷ cs)) ≡ whole →
        IsGoing (told_and told (p ∷ [])) more whole
    go zero enough same = absurd (omega arith)
    go (suc most) enough same = record {
      most = most;
      enough = omega arith;
      same = told_others told p (parameters_in most more)
          ∙ (sym (ap (λ found. option_map (told_and told) (behind_one most found)) read) ∙ same);
    }

-- what is left is no parameter
pub going_stop : (told : Told) (rest : List ℕ) (whole : Option Told) →
    0 < length rest → parameter_at rest ≡ None → IsGoing told rest whole → None ≡ whole
going_stop told [] whole some read going = absurd (omega arith)
going_stop told (c ∷ cs) whole some read going = go going.most going.enough going.same
  where
    go : (most : ℕ) → length (c ∷ cs) ≤ most →
        option_map (told_and told) (parameters_in most (c ∷ cs)) ≡ whole → None ≡ whole
    go zero enough same = absurd (omega arith)
    go (suc most) enough same =
        sym (ap (λ found. option_map (told_and told) (behind_one most found)) read) ∙ same

-- nothing is left
pub going_end : (told : Told) (rest : List ℕ) (whole : Option Told) →
    length rest ≡ 0 → IsGoing told rest whole → Some told ≡ whole
going_end told [] whole none going = go going.most going.same
  where
    go : (most : ℕ) → option_map (told_and told) (parameters_in most []) ≡ whole → Some told ≡ whole
    go zero same = sym (ap Some (told_end told)) ∙ same
    go (suc most) same = sym (ap Some (told_end told)) ∙ same
going_end told (c ∷ cs) whole none going = absurd (omega arith)

pub ruleset going = (going_first, going_stop, going_end)
