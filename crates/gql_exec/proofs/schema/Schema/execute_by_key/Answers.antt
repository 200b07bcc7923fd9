use Rattle.std.proofs.Common.{rules, OnOk, ap, subst, ◌≡◌, ◌∙◌}
use Rattle.gql_tasks.specs.Progress.{seen, seen_in}
use Rattle.gql_exec.specs.Counting.{CountsTasks}
use Rattle.gql_exec.specs.Execution.{asks}
use Rattle.gql_collect.specs.declared.basis.Grouping.TheVariants as grouping
use Rattle.gql_exec.proofs.schema.Schema.execute_by_key.Goals as goal

pub returns-clause-asked : goal.returns-clause-asked
returns-clause-asked g c =
    let asked = asks c.args.self.now c.args.request.now in
    let set = g.R.ResolverSet in
    subst
    (λ resolvers. OnOk c.execute_grouped.result (CountsTasks set resolvers.now grouping.ByKey asked c.args.steps.now c.steps-1.given.0))
    c.over-run.ensures.set
    (subst
    (λ steps. OnOk c.execute_grouped.result (CountsTasks set c.over-run.result.set.now grouping.ByKey asked steps.now c.steps-1.given.0))
    c.over-run.ensures.steps
    (subst
    (λ steps. OnOk c.execute_grouped.result (CountsTasks set c.over-run.result.set.now grouping.ByKey asked c.over-run.result.steps.now steps))
    (search rules)
    c.execute_grouped.ensures.asked))

pub returns-clause-idle : goal.returns-clause-idle
returns-clause-idle g c = λ only.
    subst (λ set. seen set c.turns-1.given.0 ≡ seen c.args.resolvers.now c.args.turns.now) set_is
    (subst (λ turns. seen c.execute_grouped.new.run.set.now turns ≡ seen c.args.resolvers.now c.args.turns.now) turns_is
    (ap seen_in (c.execute_grouped.ensures.idle only) ∙ lent))
  where
    lent : seen_in c.over-run.result ≡ seen c.args.resolvers.now c.args.turns.now
    lent = λ i. seen (c.over-run.ensures.set i).now (c.over-run.ensures.turns i).now

    set_is : c.execute_grouped.new.run.set.now ≡ c.resolvers-1.given.0
    set_is = search rules

    turns_is : c.execute_grouped.new.run.turns.now ≡ c.turns-1.given.0
    turns_is = search rules
