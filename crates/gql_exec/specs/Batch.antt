-- The execution of a batch of requests over a schema: one after another over one world, each by
-- itself as a request alone (GraphQL, October 2021, section 6).
use Rattle.std.specs.Prelude.{◌≡◌, ◌≤◌, ℕ, true, List, [], ◌∷◌, Option, Some, None, length}
use Rattle.std.specs.Prelude.{slice_get, take}
use Rattle.gql_tasks.specs.Keeps.{KeepsSet}
use Rattle.gql_tasks.specs.Progress.{Seen}
use Rattle.gql_exec.specs.Admitted.{IsRefused}
use Rattle.gql_exec.specs.Execution.{asks, StopsAs, TellsAs}
use Rattle.gql_exec.specs.Response.{IsResponseTo, IsWorldAfter, IsWorldBehind}
use Rattle.gql_exec.specs.SchemaOnly.{is_schema_only}
use Rattle.gql_exec.specs.declared.dynamic_request.DynamicRequest.{DynamicRequest}
use Rattle.gql_exec.specs.declared.schema.Schema.{Schema}
use Rattle.gql_collect.specs.declared.basis.Grouping.TheVariants as grouping
use Rattle.gql_meaning.specs.Served.{served_by}
use Rattle.gql_request.specs.declared.response.Response.{Response}
use Rattle.gql_resolve.specs.declared.resolver_set.ResolverSet.{Ghosts as Resolving}
use Rattle.gql_resolve.specs.declared.turns.Turns.{Ghosts as Choosing}

module _ {R Own World Future P : Type 0} (set : Resolving R Own World Future)
    (turns : Choosing P) (schema : Schema) where
  -- a request of a batch is executed between two moments, as one alone; whatever comes of it, the
  -- set keeps its rules, and is lawful and paced still
  pub record ExecutesOne (request : DynamicRequest Own) (response : Response)
      (old new : Seen R P) : Type 0 where
    pub responds : set.is_lawful old.set
        → IsResponseTo schema request (served_by set old.set) response
    pub world : set.is_lawful old.set
        → IsWorldAfter schema request (served_by set old.set) (set.world new.set)
    pub refused : (refusal : Response) → IsRefused schema request.inner refusal
        → (response ≡ refusal) × (new ≡ old)
    pub tells : set.is_lawful old.set
        → TellsAs set turns old new (asks schema request) grouping.ByKey
    pub keeps : KeepsSet set old.set new.set
    -- of one that asks for the schema alone nothing is seen
    pub idle : is_schema_only schema request.inner ≡ true → new ≡ old

  -- memory ran out for a request of a batch, with so many root keys of a mutation after their
  -- effects
  pub record StopsOne (request : DynamicRequest Own) (roots : ℕ) (old new : Seen R P) : Type 0
    where
      pub world : set.is_lawful old.set
          → IsWorldBehind schema request (served_by set old.set) roots (set.world new.set)
      pub stops : StopsAs set turns old new (asks schema request) grouping.ByKey roots
      pub idle : is_schema_only schema request.inner ≡ true → new ≡ old

  -- requests and their responses, one for each in its order: every request is executed from the
  -- moment that the one before it left, and nothing is done but that
  abbrev pub ExecutesAll : List (DynamicRequest Own) → List Response → Seen R P → Seen R P → Type 0
  ExecutesAll [] [] old new = new ≡ old
  ExecutesAll [] (response ∷ responses) old new = ⊥
  ExecutesAll (request ∷ requests) [] old new = ⊥
  ExecutesAll (request ∷ requests) (response ∷ responses) old new =
      (next : Seen R P) × ExecutesOne request response old next
      × ExecutesAll requests responses next new

  -- what became of the next request where memory ran out; after the last one nothing more was done
  abbrev pub StopsAt : Option (DynamicRequest Own) → ℕ → Seen R P → Seen R P → Type 0
  StopsAt None roots old new = (new ≡ old) × (roots ≡ 0)
  StopsAt (Some request) roots old new = StopsOne request roots old new

  -- a batch that ended out of memory: so many of its requests were executed whole, from the
  -- first one on, and the next one ended so
  pub record StopsAfter (requests : List (DynamicRequest Own)) (done roots : ℕ)
      (old new : Seen R P) : Type 0 where
    pub within : done ≤ length requests
    pub responses : List Response
    pub between : Seen R P
    pub whole : ExecutesAll (take done requests) responses old between
    pub next : StopsAt (slice_get requests done) roots between new
