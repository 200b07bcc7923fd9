-- What is served of an execution by lawful resolvers, whatever the turns in which they answer.
use Rattle.gql_resolve.specs.Call.{Call}
use Rattle.gql_resolve.specs.declared.answer.Answer.{Answer}
use Rattle.gql_resolve.specs.declared.resolver_set.ResolverSet.{Ghosts as Resolving}

-- the answer to each call in each world, the world that a root key of a mutation leaves, and the
-- world in which the execution begins
pub record Served (V W : Type 0) : Type 0 where
  pub answer : Call V → W → Answer V
  pub effect : Call V → W → W
  pub world : W

-- what a set serves, as it stands
abbrev pub served_by : {R V W F : Type 0} → Resolving R V W F → R → Served V W
served_by set resolvers = record {
  answer = set.answer (set.rules resolvers);
  effect = set.effect (set.rules resolvers);
  world = set.world resolvers;
}
