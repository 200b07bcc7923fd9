-- The stages that a request goes through before its execution (GraphQL, October 2021, sections 5
-- and 6.1): its document, the limits, the rules, and the choice of its operation. They give that
-- operation as it is written, or the errors of the first stage that the request breaks.
use Rattle.std.specs.Prelude.{◌≡◌, ℕ, List, [], ◌∷◌, Option, Some, None, Result, Ok, Err}
use Rattle.gql_base.specs.declared.server_error.ServerError.{ServerError}
use Rattle.gql_doc.specs.Faults.{message_of}
use Rattle.gql_doc.specs.declared.document.ExecutableDocument.{ExecutableDocument}
use Rattle.gql_doc.specs.declared.fault.ParseFault.{ParseFault}
use Rattle.gql_request.specs.Request.{GivesParsed, set_document}
use Rattle.gql_request.specs.declared.request.Request.{Request}
use Rattle.gql_fields.specs.Terms.{Terms}
use Rattle.gql_rules.specs.Asked.{Asked, asking}
use Rattle.gql_rules.specs.Refusal.{refusal}
use Rattle.gql_rules.specs.RulesChecked.{IsChecked}
use Rattle.gql_admit.specs.Choice.{choice}
use Rattle.gql_admit.specs.Limits.{depth_checked, directives_checked}
use Rattle.gql_admit.specs.declared.chosen.Chosen.{Chosen}

-- what the stages give of a request: the operation that it runs with the fragments of its document,
-- or errors
abbrev pub Staged : Type 0
Staged = Result Chosen (List ServerError)

-- the error of a text that is no document
abbrev pub fault_error : ParseFault → ServerError
fault_error fault = refusal (message_of fault.kind) (Some fault.pos)

-- what a request asks of the rules
abbrev pub asked_by : Request → Asked
asked_by request = asking request.variables request.operation_name

-- the limit on directives, where there is one
abbrev pub directives_limited : ExecutableDocument → ℕ → Option ℕ → Result (Unit {0}) ServerError
directives_limited document depth None = Ok tt
directives_limited document depth (Some limit) = directives_checked document limit depth

-- the second, where the first passes
abbrev pub both_pass : Result (Unit {0}) ServerError → Result (Unit {0}) ServerError
    → Result (Unit {0}) ServerError
both_pass (Ok passed) second = second
both_pass (Err error) second = Err error

-- the limits of a document: first its depth
abbrev pub limits_checked : Terms → ExecutableDocument → Result (Unit {0}) ServerError
limits_checked terms document =
    both_pass (depth_checked document terms.depth)
    (directives_limited document terms.depth terms.directives)

-- the last stage: the operation that is chosen, or the error that there is none
abbrev pub settled : Result Chosen ServerError → Staged
settled (Ok chosen) = Ok chosen
settled (Err error) = Err (error ∷ [])

-- what is given once the rules were checked
abbrev pub given_by_rules : Request → ExecutableDocument → Result (Unit {0}) (List ServerError)
    → Staged
given_by_rules request document (Ok passed) = settled (choice document request.operation_name)
given_by_rules request document (Err errors) = Err errors

-- what is given of a document within its limits
pub record IsLooked (terms : Terms) (request : Request) (document : ExecutableDocument)
    (staged : Staged) : Type 0 where
  pub checked : Result (Unit {0}) (List ServerError)
  pub rules : IsChecked terms (asked_by request) document checked
  pub answer : staged ≡ given_by_rules request document checked

-- what is given once the limits were checked
abbrev pub IsLimited : Terms → Request → ExecutableDocument → Result (Unit {0}) ServerError
    → Staged → Type 0
IsLimited terms request document (Ok passed) staged = IsLooked terms request document staged
IsLimited terms request document (Err error) staged = staged ≡ Err (error ∷ [])

-- what is given once the document was read
abbrev pub IsRead : Terms → Request → Result ExecutableDocument ParseFault → Staged → Type 0
IsRead terms request (Ok document) staged =
    IsLimited terms request document (limits_checked terms document) staged
IsRead terms request (Err fault) staged = staged ≡ Err (fault_error fault ∷ [])

-- the stages give this of a request
pub record StagesGive (terms : Terms) (request : Request) (staged : Staged) : Type 0 where
  pub read : Result ExecutableDocument ParseFault
  pub reads : GivesParsed (set_document request) request.query read
  pub answer : IsRead terms request read staged
