-- Requests, their documents, and how a request stands in a value (GraphQL, October 2021, section
-- 6.1).
use Rattle.std.specs.Prelude.{◌≡◌, ℕ, List, [], Option, Some, None, Result, Ok, Err, MatchResult}
use Rattle.std.specs.Prelude.{codes, ⊤}
use Rattle.std.specs.Borrow.{Fml, Bor, MutBor, follows_so}
use Rattle.std.specs.Str.{chars}
use Rattle.std.specs.declared.alloc.AllocError.{AllocError}
use mathlib.Core.Option.{none}
use Rattle.gql_base.specs.Pairs.{under}
use Rattle.gql_base.specs.declared.value.Value.{Value, out-Value}
use Rattle.gql_base.specs.declared.value.Value.TheOpen.{Value-F}
use Rattle.gql_doc.specs.Spelled.{GivesDocument}
use Rattle.gql_doc.specs.declared.document.ExecutableDocument.{ExecutableDocument}
use Rattle.gql_doc.specs.declared.fault.ParseFault.{ParseFault}
use Rattle.gql_request.specs.Reading.{Reading, ◌>>=◌, optional, reason_text}
use Rattle.gql_request.specs.contracts.request.Request.{the_row}
use Rattle.gql_request.specs.declared.query_env.IntrospectionMode.TheVariants.{Enabled}
use Rattle.gql_request.specs.declared.reading.Reason.TheVariants as reason
use Rattle.gql_request.specs.declared.request.Request.{Request}

-- a request for a text, with nothing beside it
abbrev pub request_for : List ℕ → Request
request_for query = record {
  query = query;
  operation_name = None;
  variables = [];
  query_data = [];
  extensions = [];
  introspection_mode = Enabled;
  document = None;
}

-- the document that is set, if any
abbrev pub set_document : Request → Option ExecutableDocument
set_document request = request.document

-- the request once this document is set
abbrev pub with_document : Request → ExecutableDocument → Request
with_document request document = record request { document = Some document }

-- what a request's document is: the one that is set, and without one what the query reads as
abbrev pub GivesParsed : Option ExecutableDocument → List ℕ → Result ExecutableDocument ParseFault
    → Type 0
GivesParsed (Some document) query outcome = outcome ≡ Ok document
GivesParsed None query outcome = GivesDocument (chars query) outcome

-- the request once its document was asked for: it has the document that was given, and after a
-- refusal or out of memory it is as before
abbrev pub IsAfterParsing : Request → Result (Result (Bor ExecutableDocument) ParseFault) AllocError
    → Request → Type 0
IsAfterParsing before result after = MatchResult result
    (λ outcome. MatchResult outcome (λ document. after ≡ with_document before document.now)
    (λ _. after ≡ before))
    (λ _. after ≡ before)

-- that the request ends so, once the document that was given is let go
abbrev pub ends_parsed : MutBor Request
    → Result (Result (Bor ExecutableDocument) ParseFault) AllocError → Fml
ends_parsed request result =
    follows_so the_row the_row request.ghost_name none (λ _ _. ⊤)
    (IsAfterParsing request.now result)

-- The readings of the members of a request, each by its kind.

abbrev pub query_here : Value-F Value → Reading (List ℕ)
query_here (Value-F.String text) = Ok text
query_here _ = Err (reason_text reason.NoQueryText)

abbrev pub operation_name_here : Value-F Value → Reading (Option (List ℕ))
operation_name_here Value-F.Null = Ok None
operation_name_here (Value-F.String text) = Ok (Some text)
operation_name_here _ = Err (reason_text reason.NoNameText)

abbrev pub variables_here : Value-F Value → Reading (List (List ℕ × Value))
variables_here Value-F.Null = Ok []
variables_here (Value-F.Object members) = Ok members
variables_here (Value-F.List items) = Err (reason_text reason.VariablesList)
variables_here _ = Err (reason_text reason.NoVariables)

abbrev pub extensions_here : Value-F Value → Reading (List (List ℕ × Value))
extensions_here Value-F.Null = Ok []
extensions_here (Value-F.Object members) = Ok members
extensions_here _ = Err (reason_text reason.NoExtensions)

-- the text of the query; an absent one is empty
abbrev pub query_in : Option Value → Reading (List ℕ)
query_in = optional [] (λ value. query_here (out-Value value))

-- the name of the operation, if any
abbrev pub operation_name_in : Option Value → Reading (Option (List ℕ))
operation_name_in = optional None (λ value. operation_name_here (out-Value value))

-- the variables; absent ones are none
abbrev pub variables_in : Option Value → Reading (List (List ℕ × Value))
variables_in = optional [] (λ value. variables_here (out-Value value))

-- the extensions; absent ones are none
abbrev pub extensions_in : Option Value → Reading (List (List ℕ × Value))
extensions_in = optional [] (λ value. extensions_here (out-Value value))

-- the request of an object's members, which are looked at in this order; other members don't count
abbrev pub request_in : List (List ℕ × Value) → Reading Request
request_in members = do
  query ← query_in (under (codes "query") members)
  operation_name ← operation_name_in (under (codes "operationName") members)
  variables ← variables_in (under (codes "variables") members)
  extensions ← extensions_in (under (codes "extensions") members)
  Ok (record (request_for query) {
    operation_name = operation_name;
    variables = variables;
    extensions = extensions;
  })

abbrev pub request_here : Value-F Value → Reading Request
request_here (Value-F.Object members) = request_in members
request_here _ = Err (reason_text reason.NoObject)

-- the request that a value holds, or the first reason why it holds none
abbrev pub request_of : Value → Reading Request
request_of value = request_here (out-Value value)
