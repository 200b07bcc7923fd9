-- What a media range asks for here.
use Rattle.std.specs.Prelude.{ℕ, Bool, true, false, ◌&&◌, List, Option, Some, None, codes}
use Rattle.std.specs.Prelude.{if◌then◌else◌}
use Rattle.std.specs.Option.{unwrap_or}
use Rattle.std.specs.Str.{str_eq_ignore_ascii_case}
use Rattle.gql_multipart.specs.MediaRange.{MediaRange, range_of}
use Rattle.gql_multipart.specs.Step.{◌>>=◌}
use Rattle.gql_multipart.specs.Told.{is_graphql, told_of}
use Rattle.gql_multipart.specs.declared.offer.Offer.{Offer}
use Rattle.gql_multipart.specs.declared.told.Told.{Told}

-- whether a type and a subtype are these, whatever the case of their letters
abbrev pub are_words : List ℕ → List ℕ → List ℕ → List ℕ → Bool
are_words kind subtype wanted other =
    str_eq_ignore_ascii_case kind wanted && str_eq_ignore_ascii_case subtype other

-- `application/json` asks for JSON, and `multipart/mixed` with GraphQL's parameters for multipart
abbrev pub offered : List ℕ → List ℕ → Told → Option Offer
offered kind subtype told =
    if are_words kind subtype (codes "application") (codes "json")
    then Some (record { is_multipart = false; q = unwrap_or told.q 1000 })
    else (if are_words kind subtype (codes "multipart") (codes "mixed") && is_graphql told
    then Some (record { is_multipart = true; q = unwrap_or told.q 1000 }) else None)

-- what a range asks for, if it's one of the two
abbrev pub offer_of : MediaRange → Option Offer
offer_of range = offered range.kind range.subtype (told_of range.parameters)

-- what the text of a range asks for
abbrev pub offer_at : List ℕ → Option Offer
offer_at text = range_of text >>= offer_of
