-- What stands for what was read.
use Rattle.std.specs.Prelude.{◌≡◌, ℕ, List, Some}
use Rattle.gql_multipart.specs.MediaRange.{range_of}
use Rattle.gql_multipart.specs.Parameter.{Given}
use Rattle.gql_multipart.specs.Quoted.{said}
use Rattle.gql_multipart.specs.Told.{told_of}
use Rattle.gql_multipart.specs.declared.told.Told.{Told}
use Rattle.gql_multipart.specs.declared.parameter.Parameter.{Parameter}

-- a parameter that was read, without the backslashes in its value
abbrev pub given : Parameter → Given
given parameter = record {
  name = parameter.name.now;
  value = said parameter.value.now;
}

-- a range that was read, with what its parameters say
pub record IsRead (text kind subtype : List ℕ) (told : Told) : Type 0 where
  pub parameters : List Given
  pub range : range_of text
      ≡ Some (record { kind = kind; subtype = subtype; parameters = parameters })
  pub says : told ≡ told_of parameters
