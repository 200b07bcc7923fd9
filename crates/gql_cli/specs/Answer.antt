-- The answer to a bench's requests.
use Rattle.std.specs.Prelude.{◌≡◌, ℕ, ℤ, List, Option, Some}
use Rattle.gql_bench.specs.declared.bench.Bench.{Bench}
use Rattle.gql_cli.specs.Execution.{ExecutedInOrder, first_of}
use Rattle.gql_cli.specs.Request.{AreAlike, requests_for, rooted_with}
use Rattle.gql_cli.specs.declared.answer.Answer.{Answer}
use Rattle.gql_cli.specs.declared.answer.Answer.TheVariants as answer
use Rattle.gql_tasks.specs.Progress.{Seen}
use Rattle.gql_exec.specs.Batch.{ExecutesAll}
use Rattle.gql_exec.specs.Builder.{IsSchemaOf, whole_table}
use Rattle.gql_settings.specs.declared.builder.SchemaBuilder.{SchemaBuilder}
use Rattle.gql_exec.specs.declared.schema.Schema.{Schema}
use Rattle.gql_request.specs.BatchRequest.{requests_of}
use Rattle.gql_request.specs.BatchResponse.{responses_of}
use Rattle.gql_request.specs.declared.batch_request.BatchRequest.{BatchRequest}
use Rattle.gql_request.specs.declared.batch_response.BatchResponse.{BatchResponse}
use Rattle.gql_resolve.specs.declared.field_value.FieldValue.{FieldValue}
use Rattle.gql_resolve.specs.declared.record_entry.RecordEntry.{RecordEntry}
use Rattle.gql_resolve.specs.declared.resolver_set.ResolverSet.{Ghosts as Resolving}
use Rattle.gql_resolve.specs.declared.turns.Turns.{Ghosts as Choosing}
use Rattle.gql_schema.specs.Sound.{IsFirstRefusal}
use Rattle.gql_schema.specs.declared.schema_error.SchemaError.{SchemaError}

-- the response to the requests of a bench, and the record that was told of them
pub record IsResponseToBench (bench : Bench) (told : Option (List RecordEntry))
    (response : BatchResponse) : Type 0 where
  pub schema : Schema
  pub is : IsSchemaOf bench.builder schema
  pub alike : AreAlike bench.requests response
  pub entries : List RecordEntry
  pub is_told : told ≡ Some entries
  pub executed : ExecutedInOrder bench schema (requests_for bench) (responses_of response) entries
      (first_of bench)

-- the table of a builder's types is refused, and this text says why
abbrev pub IsRefusedBuilder : SchemaBuilder → List ℕ → Type 0
IsRefusedBuilder builder text =
    (error : SchemaError) × IsFirstRefusal (whole_table builder) error × (text ≡ error.text)

-- the same of a bench's types
abbrev pub IsRefusedTable : Bench → List ℕ → Type 0
IsRefusedTable bench text = IsRefusedBuilder bench.builder text

-- the answer to the requests of a bench, with what was told
abbrev pub IsAnswerTo : Bench → Option (List RecordEntry) → Answer → Type 0
IsAnswerTo bench told (answer.Response response) = IsResponseToBench bench told response
IsAnswerTo bench told (answer.BadSchema text) = IsRefusedTable bench text

module _ {S World Future T : Type 0} (set : Resolving S ℤ World Future) (turns : Choosing T)
    (builder : SchemaBuilder) (requests : BatchRequest) (root : FieldValue ℤ) (old new : Seen S T)
  where
    -- the response to requests whose root has this value, over the schema of a builder: they were
    -- executed between two moments of a set and turns
    pub record IsResponseOver (response : BatchResponse) : Type 0 where
      pub schema : Schema
      pub is : IsSchemaOf builder schema
      pub alike : AreAlike requests response
      pub executed : ExecutesAll set turns schema (rooted_with root (requests_of requests))
          (responses_of response) old new

    -- the answer to them
    abbrev pub IsAnswerOver : Answer → Type 0
    IsAnswerOver (answer.Response response) = IsResponseOver response
    IsAnswerOver (answer.BadSchema text) = IsRefusedBuilder builder text
