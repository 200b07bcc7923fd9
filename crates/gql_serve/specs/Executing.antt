-- The execution of one request over a set, as one alone (GraphQL, October 2021, section 6).
use Rattle.std.specs.Prelude.{Result, Ok, Err}
use Rattle.gql_base.specs.declared.no_memory.NoMemory.{NoMemory}
use Rattle.gql_exec.specs.Batch.{ExecutesOne, StopsOne}
use Rattle.gql_exec.specs.declared.dynamic_request.DynamicRequest.{DynamicRequest}
use Rattle.gql_exec.specs.declared.schema.Schema.{Schema}
use Rattle.gql_request.specs.declared.response.Response.{Response}
use Rattle.gql_resolve.specs.declared.resolver_set.ResolverSet.{Ghosts as Resolving}
use Rattle.gql_resolve.specs.declared.turns.Turns.{Ghosts as Choosing}
use Rattle.gql_tasks.specs.Keeps.{KeepsSet}
use Rattle.gql_tasks.specs.Progress.{Seen}

-- a request is executed between two moments: it has its response, or memory ran out. Either way the
-- set keeps its rules, and is lawful and paced still
abbrev pub Executes : {R Own World Future P : Type 0} → Resolving R Own World Future → Choosing P
    → Schema → DynamicRequest Own → Seen R P → Seen R P → Result Response NoMemory → Type 0
Executes set turns schema request old new (Ok response) =
    ExecutesOne set turns schema request response old new
Executes set turns schema request old new (Err want) =
    StopsOne set turns schema request want.roots old new × KeepsSet set old.set new.set
