-- What reading a request from a value gives: the request, or the text of the first reason against
-- it.
use Rattle.std.specs.Prelude.{◌≡◌, ℕ, List, Option, Some, None, Result, Ok, Err, codes}
use Rattle.gql_request.specs.declared.reading.Fault.{Fault}
use Rattle.gql_request.specs.declared.reading.Fault.TheVariants.{Refused, NoMemory}
use Rattle.gql_request.specs.declared.reading.Reason.{Reason}
use Rattle.gql_request.specs.declared.reading.Reason.TheVariants.{NoObject, NoQueryText, NoNameText}
use Rattle.gql_request.specs.declared.reading.Reason.TheVariants.{VariablesList, NoVariables}
use Rattle.gql_request.specs.declared.reading.Reason.TheVariants.{NoExtensions}
use Rattle.gql_request.specs.declared.reading.Reason.TheVariants.{NoRequest}

abbrev pub Reading : Type 0 → Type 0
Reading A = Result A (List ℕ)

-- what is read next, once this is there
infixl 10 ◌>>=◌
abbrev pub ◌>>=◌ : {A B : Type 0} → Reading A → (A → Reading B) → Reading B
Ok read >>= next = next read
Err reason >>= next = Err reason

-- what stands for a member: its reading, or this where it is absent
abbrev pub optional : {A V : Type 0} → A → (V → Reading A) → Option V → Reading A
optional missing read None = Ok missing
optional missing read (Some value) = read value

-- the text of a reason
abbrev pub reason_text : Reason → List ℕ
reason_text NoObject = codes "expected an object"
reason_text NoQueryText = codes "query must be a text"
reason_text NoNameText = codes "operationName must be a text or null"
reason_text VariablesList = codes "invalid type: sequence, expected a map"
reason_text NoVariables = codes "variables must be an object or null"
reason_text NoExtensions = codes "extensions must be an object or null"
reason_text NoRequest = codes "expected a non-empty list"

-- that a reader answers what there is to read, unless memory runs out
abbrev pub IsRead : {A : Type 0} → Result A Fault → Reading A → Type 0
IsRead (Ok value) read = read ≡ Ok value
IsRead (Err (Refused reason)) read = read ≡ Err (reason_text reason)
IsRead (Err NoMemory) read = Unit {0}
