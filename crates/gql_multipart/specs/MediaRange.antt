-- Media ranges (RFC 9110, section 12.5.1).
use Rattle.std.specs.Prelude.{ℕ, List, Option, length}
use Rattle.std.specs.Option.{option_map}
use Rattle.gql_multipart.specs.Parameter.{Given, parameters_in}
use Rattle.gql_multipart.specs.Step.{◌>>=◌}
use Rattle.gql_multipart.specs.Token.{behind, token_at}

-- a type, a subtype and parameters
pub record MediaRange : Type 0 where
  pub kind : List ℕ
  pub subtype : List ℕ
  pub parameters : List Given

-- the media range that a text is: a type, `/`, a subtype and parameters
unfoldable pub range_of : List ℕ → Option MediaRange
range_of text = do
  kind ← token_at text
  more ← behind 47 kind.1
  subtype ← token_at more
  option_map (λ parameters. record {
    kind = kind.0;
    subtype = subtype.0;
    parameters = parameters;
  }) (parameters_in (length subtype.1) subtype.1)
