-- What the check of rules answers (GraphQL, October 2021, section 5).
use Rattle.std.specs.Prelude.{◌≡◌, List, [], ◌∷◌, map, Some, Result, Ok, Err}
use Rattle.std.specs.List.{Contains}
use Rattle.gql_base.specs.declared.server_error.ServerError.{ServerError}
use Rattle.gql_doc.specs.declared.document.ExecutableDocument.{ExecutableDocument}
use Rattle.gql_fields.specs.Breaches.{told_at}
use Rattle.gql_fields.specs.BuiltIn.{built_in}
use Rattle.gql_fields.specs.Places.{Place, document_places}
use Rattle.gql_fields.specs.Terms.{Terms}
use Rattle.gql_fields.specs.declared.breach.Breach.{Breach}
use Rattle.gql_rules.specs.Asked.{Asked}
use Rattle.gql_fields.specs.BreachOrder.{Lists}
use Rattle.gql_rules.specs.FragmentCycles.{IsCircular}
use Rattle.gql_rules.specs.FieldMerging.{IsConflicting}
use Rattle.gql_rules.specs.VariableDefinitions.{told_of_variables}
use Rattle.gql_rules.specs.Refusal.{refusal}
use Rattle.gql_rules.specs.ReachedUses.{IsWrongUse}

-- a rule that a document breaks: at one of its places, by a definition of a variable or by the use
-- of one, by a fragment that reaches itself, or by fields of one key that can't be merged
pub data IsBreach (terms : Terms) (asked : Asked) (document : ExecutableDocument) (found : Breach)
    : Type 0 where
  at_place : (place : Place) → Contains (document_places terms document) place
      → Contains (told_at built_in terms document.fragments place) found
      → IsBreach terms asked document found
  of_variable : Contains (told_of_variables terms asked document.operations) found
      → IsBreach terms asked document found
  by_use : IsWrongUse terms document found → IsBreach terms asked document found
  circular : IsCircular document.fragments found → IsBreach terms asked document found
  conflicting : IsConflicting terms document found → IsBreach terms asked document found

-- the error of a breach: its text, at its place
abbrev pub error_of : Breach → ServerError
error_of found = refusal found.text (Some found.pos)

-- a document without breaches passes, and another is refused with all of them
abbrev pub refused_with : List Breach → Result (Unit {0}) (List ServerError)
refused_with [] = Ok tt
refused_with (found ∷ others) = Err (error_of found ∷ map error_of others)

-- the check's answer is what comes of the list of all breaches, in their order, each once
pub record IsChecked (terms : Terms) (asked : Asked) (document : ExecutableDocument)
    (checked : Result (Unit {0}) (List ServerError)) : Type 0 where
  pub breaches : List Breach
  pub all : Lists (IsBreach terms asked document) breaches
  pub answer : checked ≡ refused_with breaches
