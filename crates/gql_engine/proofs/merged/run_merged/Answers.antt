use Rattle.std.proofs.Common.{◌∙◌}
use Rattle.gql_tasks.specs.Parts.{due_by}
use Rattle.gql_engine.proofs.GroupedLemmas.{by_key_whole_is_merged}
use Rattle.gql_engine.proofs.merged.run_merged.Goals as goal

pub returns-clause-places : goal.returns-clause-places
returns-clause-places g c = λ law n nests.
    c.into_place.ensures ∙ c.in_ok-piece.ensures.places law n nests ∙ by_key_whole_is_merged c.args.scene.now (due_by g.R.ResolverSet c.args.resolvers.now) n
