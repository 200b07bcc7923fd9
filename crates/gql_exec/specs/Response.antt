-- The response to a request over a schema, and the world after it (GraphQL, October 2021, section
-- 6): over what lawful resolvers serve, whatever the turns in which they answer.
use Rattle.std.specs.Prelude.{◌≡◌, ◌≤◌, ◌+◌, ℕ, length, Result, Ok, Err}
use Rattle.gql_base.specs.declared.no_memory.NoMemory.{NoMemory}
use Rattle.gql_exec.specs.Admitted.{IsAdmitted, IsRefused}
use Rattle.gql_exec.specs.Written.{written_of}
use Rattle.gql_exec.specs.declared.dynamic_request.DynamicRequest.{DynamicRequest}
use Rattle.gql_exec.specs.declared.schema.Schema.{Schema}
use Rattle.gql_meaning.specs.Counted.{answers_asked}
use Rattle.gql_meaning.specs.Responses.{asking_keys, response_merged, world_left, world_left_by}
use Rattle.gql_meaning.specs.Served.{Served}
use Rattle.gql_request.specs.declared.response.Response.{Response}

-- a request that is refused has the response that refuses it; an admitted one has the response of
-- merged execution of its operation, as it is written
pub data IsResponseTo {V W : Type 0} (schema : Schema) (request : DynamicRequest V)
    (served : Served V W) (response : Response) : Type 0 where
  by_refusal : IsRefused schema request.inner response → IsResponseTo schema request served response
  by_execution : (admitted : IsAdmitted schema request.inner)
      → response ≡ response_merged served (written_of schema request admitted)
      → IsResponseTo schema request served response

-- a request that is refused leaves the world as it was; an admitted one leaves the world that the
-- root keys of its operation leave, where that is a mutation
pub data IsWorldAfter {V W : Type 0} (schema : Schema) (request : DynamicRequest V)
    (served : Served V W) (world : W) : Type 0 where
  stays : (response : Response) → IsRefused schema request.inner response
      → world ≡ served.world → IsWorldAfter schema request served world
  is_left : (admitted : IsAdmitted schema request.inner)
      → world ≡ world_left served (written_of schema request admitted)
      → IsWorldAfter schema request served world

-- where memory ran out, so many root keys of a mutation that ask an answer have their effects; of a
-- request that is refused, of a query, or before any of them, the world is as it was
pub data IsWorldBehind {V W : Type 0} (schema : Schema) (request : DynamicRequest V)
    (served : Served V W) (roots : ℕ) (world : W) : Type 0 where
  none_stands : roots ≡ 0 → world ≡ served.world
      → IsWorldBehind schema request served roots world
  roots_stand : (admitted : IsAdmitted schema request.inner)
      → roots ≤ length (asking_keys (written_of schema request admitted).execution
      (written_of schema request admitted).asked)
      → world ≡ world_left_by served (written_of schema request admitted) roots
      → IsWorldBehind schema request served roots world

-- the world by what an execution answers
abbrev pub LeavesWorld : {V W : Type 0} → Schema → DynamicRequest V → Served V W
    → Result Response NoMemory → W → Type 0
LeavesWorld schema request served (Ok response) world = IsWorldAfter schema request served world
LeavesWorld schema request served (Err want) world =
    IsWorldBehind schema request served want.roots world

-- no answer is asked for a request that is refused; for an admitted one as many as merged execution
-- asks
pub data IsAskedCount {V W : Type 0} (schema : Schema) (request : DynamicRequest V)
    (served : Served V W) (count : ℕ) : Type 0 where
  asks_none : (response : Response) → IsRefused schema request.inner response
      → count ≡ 0 → IsAskedCount schema request served count
  asks_all : (admitted : IsAdmitted schema request.inner)
      → count ≡ answers_asked served (written_of schema request admitted)
      → IsAskedCount schema request served count

-- so many more steps
abbrev pub Counts : {V W : Type 0} → Schema → DynamicRequest V → Served V W → ℕ → ℕ → Type 0
Counts schema request served steps steps' =
    (count : ℕ) × IsAskedCount schema request served count × (steps' ≡ steps + count)
