use Rattle.std.proofs.Common.{ℕ, IfOk, subst}
use Rattle.gql_collect.specs.GroupFields.{keeps_whole}
use Rattle.gql_engine.specs.ExecuteQuery.{Nests, response_by}
use Rattle.gql_place.specs.Alike.{Same}
use Rattle.gql_place.specs.Pieces.{place_in}
use Rattle.gql_tasks.specs.Parts.{due_by}
use Rattle.gql_engine.proofs.execute_query.run_on_blank.Goals as goal

pub returns-clause-places : goal.returns-clause-places
returns-clause-places g c =
    let scene = c.args.scene.now in
    subst
    (λ set. g.R.ResolverSet.is_lawful set.now → (n : ℕ) → Nests scene n → IfOk c.run_grouped.result
    (λ piece. Same (keeps_whole c.args.by) (place_in piece) (response_by c.args.by scene (due_by g.R.ResolverSet set.now) n)))
    c.over.ensures.set
    (λ lawful. c.run_grouped.ensures.places lawful tt)
