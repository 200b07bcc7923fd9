-- Breaches, and those that tests tell.
use Rattle.std.specs.Prelude.{ℕ, Bool, true, false, List, [], ◌∷◌}
use Rattle.gql_base.specs.declared.pos.Pos.{Pos}
use Rattle.gql_fields.specs.declared.breach.Breach.{Breach}
use Rattle.gql_fields.specs.declared.breach.BreachKind.{BreachKind}

-- a breach of this kind at a place, with the name that it is about
abbrev pub breach : Pos → BreachKind → List ℕ → List ℕ → Breach
breach pos kind name text = record { pos = pos; kind = kind; name = name; text = text }

-- what a test tells, where it fails
abbrev pub unless : Bool → Breach → List Breach
unless true found = []
unless false found = found ∷ []
