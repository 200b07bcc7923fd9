-- Names (GraphQL, October 2021, section 2.1.9).
use Rattle.std.specs.Prelude.{◌≡◌, ℕ, true, List}
use Rattle.gql_base.specs.Letters.{is_name}

-- a letter or `_`, and then letters, digits and `_`
abbrev pub IsName : List ℕ → Type 0
IsName cs = is_name cs ≡ true
