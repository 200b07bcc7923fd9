use Rattle.std.proofs.Common.{rules, ap, subst, ◌≡◌, ◌∙◌}
use Rattle.gql_tasks.specs.Progress.{seen, seen_in}
use Rattle.gql_exec.proofs.schema.Schema.execute_on.Goals as goal

pub returns-clause-idle : goal.returns-clause-idle
returns-clause-idle g c = λ only.
    subst (λ set. seen set c.turns-1.given.0 ≡ seen c.args.resolvers.now c.args.turns.now) set_is
    (subst (λ turns. seen c.execute_grouped.new.run.set.now turns ≡ seen c.args.resolvers.now c.args.turns.now) turns_is
    (ap seen_in (c.execute_grouped.ensures.idle only) ∙ lent))
  where
    lent : seen_in c.over-run.result ≡ seen c.args.resolvers.now c.args.turns.now
    lent = λ i. seen (c.over-run.ensures.set i).now (c.over-run.ensures.turns i).now

    set_is : c.execute_grouped.new.run.set.now ≡ c.resolvers-1.given.0
    set_is = search rules

    turns_is : c.execute_grouped.new.run.turns.now ≡ c.turns-1.given.0
    turns_is = search rules
