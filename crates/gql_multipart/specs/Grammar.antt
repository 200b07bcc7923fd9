-- The grammar of a media range with its parameters (RFC 9110, sections 5.6 and 12.5.1).
use Rattle.std.specs.Prelude.{◌≡◌, ◌≢◌, ℕ, true, List, [], ◌∷◌, ◌++◌, ◌⊎◌}
use Rattle.std.specs.List.{AllByRecursion}
use Rattle.gql_multipart.specs.MediaRange.{MediaRange}
use Rattle.gql_multipart.specs.Parameter.{Given}
use Rattle.gql_multipart.specs.Token.{is_blank, is_token_character}

-- one character of a token or more
abbrev pub IsToken : List ℕ → Type 0
IsToken text = (text ≢ []) × AllByRecursion (λ c. is_token_character c ≡ true) text

-- blanks and tabs, or nothing
abbrev pub AreBlanks : List ℕ → Type 0
AreBlanks text = AllByRecursion (λ c. is_blank c ≡ true) text

-- a text between quotes says these characters, each plain or after a backslash
abbrev pub IsQuoted : List ℕ → List ℕ → Type 0
IsQuoted text [] = text ≡ []
IsQuoted text (c ∷ others) =
    (rest : List ℕ)
    × ((text ≡ 92 ∷ c ∷ rest) ⊎ ((text ≡ c ∷ rest) × (c ≢ 34) × (c ≢ 92)))
    × IsQuoted rest others

-- a value as it's spelled: a token, or between quotes
abbrev pub IsValue : List ℕ → List ℕ → Type 0
IsValue spelled value =
    ((spelled ≡ value) × IsToken value)
    ⊎ ((text : List ℕ) × (spelled ≡ 34 ∷ (text ++ 34 ∷ [])) × IsQuoted text value)

-- `;` with blanks around it, a name, `=` and a value
pub record IsParameter (text : List ℕ) (parameter : Given) : Type 0 where
  pub before : List ℕ
  pub after : List ℕ
  pub spelled : List ℕ
  pub parts : text ≡ before ++ (59 ∷ (after ++ (parameter.name ++ (61 ∷ spelled))))
  pub blanks_before : AreBlanks before
  pub blanks_after : AreBlanks after
  pub name : IsToken parameter.name
  pub value : IsValue spelled parameter.value

-- parameters, one after another
abbrev pub AreParameters : List ℕ → List Given → Type 0
AreParameters text [] = text ≡ []
AreParameters text (parameter ∷ others) =
    (first : List ℕ) × (rest : List ℕ) × (text ≡ first ++ rest) × IsParameter first parameter
    × AreParameters rest others

-- a type, `/`, a subtype and parameters
pub record IsRange (text : List ℕ) (range : MediaRange) : Type 0 where
  pub rest : List ℕ
  pub parts : text ≡ range.kind ++ (47 ∷ (range.subtype ++ rest))
  pub kind : IsToken range.kind
  pub subtype : IsToken range.subtype
  pub parameters : AreParameters rest range.parameters
