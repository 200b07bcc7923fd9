-- Services: books under a lock, for callers on many threads.
use Rattle.std.specs.Prelude.{◌≡◌, Option, Some}
use Rattle.gql_exec.specs.Response.{IsResponseTo, IsWorldAfter}
use Rattle.gql_exec.specs.declared.dynamic_request.DynamicRequest.{DynamicRequest}
use Rattle.gql_exec.specs.declared.schema.Schema.{Schema}
use Rattle.gql_request.specs.declared.response.Response.{Response}
use Rattle.gql_resolve.specs.declared.resolver_set.ResolverSet.{Ghosts as Resolving}
use Rattle.gql_serve.specs.Journal.{Journal, LeadsTo, serving}

module _ {R V W F : Type 0} (set : Resolving R V W F) (begins : Option R) where
  -- a service begins with this set, which is lawful
  pub record BeginsWith (first : R) : Type 0 where
    pub is : begins ≡ Some first
    pub lawful : set.is_lawful first

  -- a request was answered in its place of a legal journal: after what was executed before it over
  -- the set with which the service begins
  pub record Answered (schema : Schema) (request : DynamicRequest V) (response : Response) : Type 0
    where
      pub first : R
      pub begun : BeginsWith first
      pub earlier : Journal V
      pub before : W
      pub behind : W
      pub leads : LeadsTo set (set.rules first) earlier (set.world first) before
      pub responds : IsResponseTo schema request (serving set (set.rules first) before) response
      pub leaves : IsWorldAfter schema request (serving set (set.rules first) before) behind
