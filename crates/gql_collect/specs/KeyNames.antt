-- The keys of an object's fields.
use Rattle.std.specs.Prelude.{ℕ, List}
use Rattle.gql_base.specs.Pairs.{names_of}
use Rattle.gql_doc.specs.Document.{key_of}
use Rattle.gql_doc.specs.declared.document.Field.{Field}
use Rattle.gql_doc.specs.declared.document.Positioned.{Positioned}
use Rattle.gql_collect.specs.declared.key_names.Keys.{Keys}
use Rattle.gql_collect.specs.declared.key_names.Keys.TheVariants as keys

-- the keys as texts, in the order of the fields
abbrev pub names_in : Keys → List (List ℕ)
names_in (keys.Once pairs) = names_of pairs
names_in (keys.Each names) = names.items

-- the key of an occurrence of a field
abbrev pub key_text : Positioned Field → List ℕ
key_text occurrence = (key_of occurrence.node).node
