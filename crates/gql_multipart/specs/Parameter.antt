-- Parameters of a media range (RFC 9110, section 5.6.6).
use Rattle.std.specs.Prelude.{ℕ, zero, suc, Bool, List, [], ◌∷◌, Option, Some, None, codes}
use Rattle.std.specs.Prelude.{if◌then◌else◌}
use Rattle.std.specs.Option.{option_map}
use Rattle.std.specs.Str.{bytes_eq, str_eq_ignore_ascii_case}
use Rattle.gql_multipart.specs.Quality.{quality}
use Rattle.gql_multipart.specs.Quoted.{value_at}
use Rattle.gql_multipart.specs.Step.{◌>>=◌}
use Rattle.gql_multipart.specs.Token.{behind, token_at, unspaced}

-- a name, and what the value after it says
pub record Given : Type 0 where
  pub name : List ℕ
  pub value : List ℕ

-- the parameter that a text begins with: `;`, with blanks around it, a name, `=` and a value
unfoldable pub parameter_at : List ℕ → Option (Given × List ℕ)
parameter_at text = do
  more ← behind 59 (unspaced text)
  name ← token_at (unspaced more)
  spelled ← behind 61 name.1
  value ← value_at spelled
  Some (record { name = name.0; value = value.0 }, value.1)

-- the parameters that a text consists of, at most so many
abbrev pub parameters_in : ℕ → List ℕ → Option (List Given)
parameters_in most [] = Some []
parameters_in zero (c ∷ cs) = None
parameters_in (suc most) (c ∷ cs) =
    parameter_at (c ∷ cs)
    >>= λ found. option_map (λ others. found.0 ∷ others) (parameters_in most found.1)

-- the value of the first parameter of a name, whatever the case of its letters
abbrev pub value_named : List ℕ → List Given → Option (List ℕ)
value_named name [] = None
value_named name (parameter ∷ others) =
    if str_eq_ignore_ascii_case parameter.name name then Some parameter.value
    else value_named name others

-- whether the parameter of a name says a text, where there is one
abbrev pub is_said : List ℕ → List ℕ → List Given → Option Bool
is_said name text parameters =
    option_map (λ value. bytes_eq value text) (value_named name parameters)

-- the quality that the parameter `q` says, where there is one
abbrev pub quality_said : List Given → Option ℕ
quality_said parameters =
    option_map quality (value_named (codes "q") parameters)
