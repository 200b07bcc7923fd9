-- What a writing leaves in a sink.
use Rattle.std.specs.Prelude.{◌≡◌, ℕ, List, ◌++◌, Option}
use Rattle.std.specs.Io.KnownBytes.{Appends}

-- Known bytes grow by the front of a text, which may be all of it or nothing.
pub record AppendsStart (old new : Option (List ℕ)) (text : List ℕ) : Type 0 where
  pub front : List ℕ
  pub rest : List ℕ
  pub split : text ≡ front ++ rest
  pub grown : Appends old new front
