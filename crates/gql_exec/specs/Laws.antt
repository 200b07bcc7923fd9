-- The laws on what execution means over a schema.
use Rattle.std.specs.Prelude.{◌≡◌, ℕ}
use Rattle.gql_conflicts.specs.DocumentConflicts.{told}
use Rattle.gql_engine.specs.declared.scene.Scene.{Scene}
use Rattle.gql_exec.specs.Admitted.{IsAdmitted}
use Rattle.gql_exec.specs.Joined.{IsJoined}
use Rattle.gql_exec.specs.Response.{IsAskedCount, IsResponseTo, IsWorldAfter}
use Rattle.gql_exec.specs.Scene.{IsSceneOf}
use Rattle.gql_exec.specs.Written.{written_of}
use Rattle.gql_exec.specs.declared.dynamic_request.DynamicRequest.{DynamicRequest}
use Rattle.gql_exec.specs.declared.schema.Schema.{Schema}
use Rattle.gql_meaning.specs.Laws.{HasNoConflicts}
use Rattle.gql_meaning.specs.Responses.{response_apart, response_merged}
use Rattle.gql_meaning.specs.Served.{Served, served_by}
use Rattle.gql_request.specs.declared.response.Response.{Response}
use Rattle.gql_resolve.specs.declared.resolver_set.ResolverSet.{Ghosts as Resolving}

module _ (V W : Type 0) where
  -- a request has at most one response, over what is served
  abbrev pub HasOneResponse : Type 0
  HasOneResponse =
      (schema : Schema) (request : DynamicRequest V) (served : Served V W) (one other : Response)
      → IsResponseTo schema request served one → IsResponseTo schema request served other
      → one ≡ other

  -- it leaves at most one world
  abbrev pub LeavesOneWorld : Type 0
  LeavesOneWorld =
      (schema : Schema) (request : DynamicRequest V) (served : Served V W) (one other : W)
      → IsWorldAfter schema request served one → IsWorldAfter schema request served other
      → one ≡ other

  -- and asks at most one number of answers
  abbrev pub AsksOneCount : Type 0
  AsksOneCount =
      (schema : Schema) (request : DynamicRequest V) (served : Served V W) (one other : ℕ)
      → IsAskedCount schema request served one → IsAskedCount schema request served other
      → one ≡ other

  -- what admission kept of a request is what is written: its scene comes to what its operation does
  abbrev pub KeptIsWritten : Type 0
  KeptIsWritten =
      (schema : Schema) (request : DynamicRequest V) (scene : Scene V) (served : Served V W)
      → IsSceneOf schema request scene
      → (admitted : IsAdmitted schema request.inner)
      × IsJoined served scene (written_of schema request admitted)

  -- each occurrence answered apart and joined, an admitted request has the response of merged
  -- execution
  abbrev pub AdmittedApartIsMerged : Type 0
  AdmittedApartIsMerged =
      (schema : Schema) (request : DynamicRequest V) (served : Served V W)
      (admitted : IsAdmitted schema request.inner)
      → response_apart served (written_of schema request admitted)
      ≡ response_merged served (written_of schema request admitted)

-- over two sets of one type with equal rules and equal worlds, two responses to a request are
-- equal, and so are the worlds that it leaves
pub record AlikeSetsRespondAlike {R Own World Future : Type 0}
    (set : Resolving R Own World Future) (one other : R) (schema : Schema)
    (request : DynamicRequest Own) : Type 0 where
  pub responses : (a b : Response)
      → IsResponseTo schema request (served_by set one) a
      → IsResponseTo schema request (served_by set other) b → a ≡ b
  pub worlds : (a b : World)
      → IsWorldAfter schema request (served_by set one) a
      → IsWorldAfter schema request (served_by set other) b → a ≡ b

-- the same of every such two sets, over any schema and for any request
abbrev pub AlikeSets : {R Own World Future : Type 0} → Resolving R Own World Future → Type 0
AlikeSets {R = R} {Own = Own} set =
    (one other : R) (schema : Schema) (request : DynamicRequest Own)
    → set.rules one ≡ set.rules other → set.world one ≡ set.world other
    → AlikeSetsRespondAlike set one other schema request

-- the fields of one key of an admitted request can be merged, everywhere in its operation
abbrev pub AdmittedHasNoConflicts : (V : Type 0) → Type 0
AdmittedHasNoConflicts V =
    (schema : Schema) (request : DynamicRequest V) (admitted : IsAdmitted schema request.inner)
    → HasNoConflicts told (written_of schema request admitted)
