-- What the text of a range asks for.
use Rattle.std.proofs.Common.{◌≡◌, ◌∙◌, ℕ, List, Option, Some, None, refl, sym, ap, length}
use Rattle.std.proofs.lemmas.Option.{none-some}
use Rattle.std.specs.Option.{option_map}
use Rattle.gql_multipart.proofs.GrammarLemmas.{map_ok}
use Rattle.gql_multipart.proofs.SpelledLemmas.{with_kind, with_parameters, with_slash}
use Rattle.gql_multipart.specs.MediaRange.{range_of}
use Rattle.gql_multipart.specs.Offer.{offer_at, offer_of, offered}
use Rattle.gql_multipart.specs.Parameter.{Given, parameters_in}
use Rattle.gql_multipart.specs.Read.{IsRead}
use Rattle.gql_multipart.specs.Step.{◌>>=◌}
use Rattle.gql_multipart.specs.Token.{behind, token_at}
use Rattle.gql_multipart.specs.Told.{told_of}
use Rattle.gql_multipart.specs.declared.told.Told.{Told}

pub offer_read : (text kind subtype : List ℕ) (told : Told) → IsRead text kind subtype told →
    offered kind subtype told ≡ offer_at text
offer_read text kind subtype told read =
    ap (offered kind subtype) read.says ∙ sym (ap (λ o. o >>= offer_of) read.range)

pub offer_none : (text : List ℕ) → range_of text ≡ None → None ≡ offer_at text
offer_none text e = sym (ap (λ o. o >>= offer_of) e)

-- a range is read in its parts
pub range_told : (text kind more rest subtype parameters : List ℕ) (told : Told) →
    token_at text ≡ Some (kind, more) → behind 47 more ≡ Some rest → token_at rest ≡ Some (subtype, parameters) →
    Some told ≡ option_map told_of (parameters_in (length parameters) parameters) → IsRead text kind subtype told
unfolding range_of
range_told text kind more rest subtype parameters told first slash second all =
    go (map_ok told_of (parameters_in (length parameters) parameters) told (sym all))
  where
    go : (ps : List Given) × (parameters_in (length parameters) parameters ≡ Some ps) × (told_of ps ≡ told) →
        IsRead text kind subtype told
    go (ps, read, said) = record {
      parameters = ps;
      range =
          ap (λ o. o >>= with_kind) first
          ∙ (ap (λ o. o >>= with_slash kind) slash
          ∙ (ap (λ o. o >>= with_parameters kind) second
          ∙ ap (option_map (λ parameters. record { kind = kind; subtype = subtype; parameters = parameters })) read));
      says = sym said;
    }

-- nothing is made of nothing
map_none : {A B : Type 0} (f : A → B) (r : Option A) → None ≡ option_map f r → r ≡ None
map_none f None e = refl
map_none f (Some x) e = absurd (none-some (f x) e)

-- a range whose parameters aren't read is none
pub range_untold : (text kind more rest subtype parameters : List ℕ) →
    token_at text ≡ Some (kind, more) → behind 47 more ≡ Some rest → token_at rest ≡ Some (subtype, parameters) →
    None ≡ option_map told_of (parameters_in (length parameters) parameters) → range_of text ≡ None
unfolding range_of
range_untold text kind more rest subtype parameters first slash second none =
    ap (λ o. o >>= with_kind) first
    ∙ (ap (λ o. o >>= with_slash kind) slash
    ∙ (ap (λ o. o >>= with_parameters kind) second
    ∙ ap (option_map (λ parameters. record { kind = kind; subtype = subtype; parameters = parameters }))
    (map_none told_of (parameters_in (length parameters) parameters) none)))

pub ruleset telling = (range_told, range_untold)
