-- Fields of one key that can't be merged (GraphQL, October 2021, section 5.3.2).
use Rattle.std.specs.Prelude.{◌≡◌, ℕ}
use Rattle.gql_doc.specs.declared.document.ExecutableDocument.{ExecutableDocument}
use Rattle.gql_conflicts.specs.DocumentConflicts.{IsConflict}
use Rattle.gql_conflicts.specs.Rooted.{Rooted}
use Rattle.gql_conflicts.specs.declared.conflict.Conflict.{Conflict}
use Rattle.gql_fields.specs.Breach.{breach}
use Rattle.gql_fields.specs.Terms.{Terms}
use Rattle.gql_fields.specs.declared.breach.Breach.{Breach}
use Rattle.gql_fields.specs.declared.breach.BreachKind.TheVariants as kinds
use Rattle.gql_rules.specs.BreachTexts.{conflict_text}
use Rattle.gql_rules.specs.Nesting.{NestsWithin}

-- the table of types with its roots
abbrev pub rooted_in : Terms → Rooted
rooted_in terms = record {
  table = terms.table;
  query = terms.query;
  mutation = terms.mutation;
  subscription = terms.subscription;
  entities = terms.entities;
}

-- what is told of a conflict
abbrev pub conflict_breach : Conflict → Breach
conflict_breach conflict =
    breach conflict.pos kinds.Conflict conflict.key (conflict_text conflict.key)

-- this is told of a conflict of the document, whose sets are followed in as many levels as they nest
-- within: at every depth
pub record IsConflicting (terms : Terms) (document : ExecutableDocument) (found : Breach) : Type 0
  where
    pub levels : ℕ
    pub nests : NestsWithin document levels
    pub conflict : Conflict
    pub stands : IsConflict (rooted_in terms) document levels conflict
    pub is : found ≡ conflict_breach conflict
