-- The execution of a bench's requests, one after another: the response to each, and the record of
-- the polls that are made for it, in the order that the bench's turns fix.
use Rattle.std.specs.Prelude.{◌≡◌, ℕ, ℤ, Bool, true, false, List, [], ◌∷◌, ◌++◌, Option, Some}
use Rattle.gql_bench.specs.ListTurns.{list_turns}
use Rattle.gql_bench.specs.Table.{table_answer, table_delay, table_effect}
use Rattle.gql_bench.specs.declared.bench.Bench.{Bench}
use Rattle.gql_tasks.specs.Pace.{EachPaced}
use Rattle.gql_tasks.specs.Phases.{Phases, Serving}
use Rattle.gql_tasks.specs.Progress.{story_of}
use Rattle.gql_tasks.specs.Record.{Made, Stage, Story, Turned, fresh, made_at, state_at, waiting}
use Rattle.gql_engine.specs.declared.scene.Scene.{Scene}
use Rattle.gql_exec.specs.Admitted.{IsRefused}
use Rattle.gql_exec.specs.Execution.{Ask, asks}
use Rattle.gql_exec.specs.Joined.{mutates}
use Rattle.gql_exec.specs.Response.{IsResponseTo, IsWorldAfter}
use Rattle.gql_exec.specs.Scene.{IsSceneOf}
use Rattle.gql_exec.specs.declared.dynamic_request.DynamicRequest.{DynamicRequest}
use Rattle.gql_exec.specs.declared.schema.Schema.{Schema}
use Rattle.gql_objects.specs.Jobs.{Job}
use Rattle.gql_engine.specs.ExecuteQuery.{job_subject, root_jobs}
use Rattle.gql_engine.specs.ExecuteMutation.{key_jobs}
use Rattle.gql_meaning.specs.Served.{Served}
use Rattle.gql_request.specs.declared.response.Response.{Response}
use Rattle.gql_resolve.specs.Call.{Call}
use Rattle.gql_resolve.specs.declared.answer.Answer.{Answer}
use Rattle.gql_resolve.specs.declared.record_entry.RecordEntry.{RecordEntry}

-- what a request of a bench finds and leaves: the cells, and the state of the turns
pub record Between : Type 0 where
  pub cells : List ℤ
  pub turns : List ℕ × ℕ

-- what the first one finds: the bench's own cells, and its turns at their first number
abbrev pub first_of : Bench → Between
first_of bench = record { cells = bench.cells; turns = (bench.turns, 0) }

module _ (bench : Bench) where
  -- how calls are served: by the rules of the bench, in the cells as they stand
  abbrev pub bench_serving : Serving ℤ (List ℤ)
  bench_serving = record {
    answer = table_answer bench.rules;
    effect = table_effect bench.rules;
    delay = table_delay bench.rules;
    paced = Unit {0};
  }

  module _ (before : Between) where
    -- what is served of a request: by the rules of the bench, in the cells that the request finds
    abbrev pub bench_served : Served ℤ (List ℤ)
    bench_served = record {
      answer = table_answer bench.rules;
      effect = table_effect bench.rules;
      world = before.cells;
    }

    -- what is answered to a call in these cells
    abbrev pub answers_of : Call ℤ → Answer ℤ
    answers_of call = table_answer bench.rules call before.cells

    -- the tasks of merged execution, with the tasks under the answer of each
    abbrev pub story : Story (Job ℤ)
    story = story_of job_subject (λ job. answers_of job.asking.call)

    -- the tasks of a scene once these entries were made
    abbrev pub made_by : Scene ℤ → List RecordEntry → Made (Job ℤ)
    made_by scene entries = made_at story (fresh (root_jobs scene)) entries

    -- the whole record of a scene: the turns choose each entry's task among those that wait, none
    -- waits at the end, and each task has as many pending entries as the delay of its resolver, and
    -- then its ready one; and the state of the turns after it
    pub record IsRecordAtOnce (scene : Scene ℤ) (entries : List RecordEntry)
        (turns : List ℕ × ℕ) : Type 0 where
      pub turned : Turned list_turns story before.turns (fresh (root_jobs scene)) entries
      pub whole : waiting (made_by scene entries) ≡ []
      pub paced : EachPaced (λ (job : Job ℤ). table_delay bench.rules job.asking.call.resolver)
          (made_by scene entries).tasks entries
      pub leaves : turns
          ≡ state_at list_turns story before.turns (fresh (root_jobs scene)) entries

    -- before any task: no entry is told of the request, and the turns are as it finds them
    abbrev pub none_told : Option (List ℕ) → Stage (Job ℤ) (List ℕ × ℕ)
    none_told starts = record {
      made = fresh [];
      told = Some [];
      starts = starts;
      turns = Some before.turns;
    }

    -- the whole record of a mutation: the chain of those of its root keys, the first of which is
    -- asked in the cells as the request finds them; and the state of the turns after it
    pub record IsRecordInTurn (scene : Scene ℤ) (entries : List RecordEntry)
        (turns : List ℕ × ℕ) : Type 0 where
      pub starts : Option (List ℕ)
      pub behind : Stage (Job ℤ) (List ℕ × ℕ)
      pub phases : Phases bench_serving job_subject list_turns before.cells (key_jobs scene)
          (none_told starts) behind
      pub told : behind.told ≡ Some entries
      pub leaves : behind.turns ≡ Some turns

    -- the whole record of a scene, and the state of the turns after it: of a mutation, or of
    -- another operation
    abbrev pub RecordBy : Bool → Scene ℤ → List RecordEntry → List ℕ × ℕ → Type 0
    RecordBy true scene entries turns = IsRecordInTurn scene entries turns
    RecordBy false scene entries turns = IsRecordAtOnce scene entries turns

-- the record of a request over a schema, and the state of the turns after it: for one that is
-- refused nothing is polled; for an admitted one it is that of its scene
pub data IsRecordOf (bench : Bench) (before : Between) (ask : Ask ℤ) (entries : List RecordEntry)
    (turns : List ℕ × ℕ) : Type 0 where
  of_refused : (response : Response) → IsRefused ask.schema ask.request.inner response
      → entries ≡ [] → turns ≡ before.turns → IsRecordOf bench before ask entries turns
  of_scene : (scene : Scene ℤ) → IsSceneOf ask.schema ask.request scene
      → RecordBy bench before (mutates scene) scene entries turns
      → IsRecordOf bench before ask entries turns

-- the response to a request over the bench's rules, its record, and what it leaves
pub record IsExecuted (bench : Bench) (before : Between) (ask : Ask ℤ) (response : Response)
    (entries : List RecordEntry) (after : Between) : Type 0 where
  pub responds : IsResponseTo ask.schema ask.request (bench_served bench before) response
  pub cells : IsWorldAfter ask.schema ask.request (bench_served bench before) after.cells
  pub records : IsRecordOf bench before ask entries after.turns

module _ (bench : Bench) (schema : Schema) where
  -- the responses to requests over a schema, one after another, and their records, one after
  -- another: each request finds what the one before it left
  abbrev pub ExecutedInOrder : List (DynamicRequest ℤ) → List Response → List RecordEntry
      → Between → Type 0
  ExecutedInOrder [] [] entries before = entries ≡ []
  ExecutedInOrder [] (response ∷ responses) entries before = ⊥
  ExecutedInOrder (request ∷ requests) [] entries before = ⊥
  ExecutedInOrder (request ∷ requests) (response ∷ responses) entries before =
      (own : List RecordEntry) × (others : List RecordEntry) × (after : Between)
      × IsExecuted bench before (asks schema request) response own after
      × (entries ≡ own ++ others)
      × ExecutedInOrder requests responses others after
