-- What a request is admitted by.
use Rattle.std.specs.Prelude.{ℕ, Bool, List, Option}
use Rattle.std.specs.Option.{option_copied}
use Rattle.gql_schema.specs.Table.{types_of}
use Rattle.gql_schema.specs.TableReading.{TypeTable}
use Rattle.gql_fields.specs.declared.site.Site.{Site}

-- what a request is admitted by, as plain data: two sites that show the same data have the same
-- terms
pub record Terms : Type 0 where
  pub table : TypeTable
  -- the names of the roots
  pub query : List ℕ
  pub mutation : Option (List ℕ)
  pub subscription : Option (List ℕ)
  -- the limits
  pub depth : ℕ
  pub directives : Option ℕ
  -- whether the query root has the field `_entities`
  pub entities : Bool

-- the terms that a site shows
abbrev pub terms_of : Site → Terms
terms_of site = record {
  table = types_of site.types.now;
  query = site.query.now;
  mutation = option_copied site.mutation;
  subscription = option_copied site.subscription;
  depth = site.depth;
  directives = site.directives;
  entities = site.entities;
}
