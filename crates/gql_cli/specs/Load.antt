-- The run of `load`: its line tells of the response to its bench, and of the record.
use Rattle.std.specs.Prelude.{◌≡◌, ℕ, List, ◌++◌, codes, length, Some}
use Rattle.std.specs.Fmt.{decimal}
use Rattle.gql_bench.specs.Bench.{IsBenchOf}
use Rattle.gql_bench.specs.declared.bench.Bench.{Bench}
use Rattle.gql_cli.specs.Answer.{IsResponseToBench}
use Rattle.gql_cli.specs.declared.outcome.Outcome.{Outcome}
use Rattle.gql_cli.specs.declared.outcome.Outcome.TheVariants.{Loaded}
use Rattle.gql_load.specs.Form.{load_form}
use Rattle.gql_request.specs.BatchResponse.{batch_json}
use Rattle.gql_request.specs.declared.batch_response.BatchResponse.{BatchResponse}
use Rattle.gql_resolve.specs.declared.record_entry.RecordEntry.{RecordEntry}

-- the line of a load: how many rows there are, how many entries the record has, and how many bytes
-- the JSON of the response
abbrev pub load_line : ℕ → List RecordEntry → BatchResponse → List ℕ
load_line rows entries response =
    codes "rows " ++ (decimal rows
    ++ (codes " polls " ++ (decimal (length entries)
    ++ (codes " bytes " ++ (decimal (length (batch_json response)) ++ codes "\n")))))

-- the bench of so many rows gives a response with this record, and this line tells of both
pub record IsLoaded (rows : ℕ) (text : List ℕ) (entries : List RecordEntry) : Type 0 where
  pub bench : Bench
  pub made : IsBenchOf (load_form rows) bench
  pub response : BatchResponse
  pub answered : IsResponseToBench bench (Some entries) response
  pub is : text ≡ load_line rows entries response

-- what a load of so many rows gives, with its record: its line alone
abbrev pub LoadGives : ℕ → Outcome → List RecordEntry → Type 0
LoadGives rows (Loaded text) entries = IsLoaded rows text entries
LoadGives rows outcome entries = ⊥
