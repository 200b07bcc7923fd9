use Rattle.std.proofs.Common.{ap}
use Rattle.gql_tasks.specs.Progress.{Seen, seen}
use Rattle.gql_exec.proofs.CountingLemmas.{counts_answers, counts_no_refusal}
use Rattle.gql_exec.proofs.ExecutionLemmas.{leaves, refuses, responds, tells, untouched}
use Rattle.gql_exec.specs.Execution.{asks}
use Rattle.gql_collect.specs.declared.basis.Grouping.TheVariants as grouping
use Rattle.gql_exec.proofs.schema.Schema.execute_counted.Goals as goal

pub returns-clause-response : goal.returns-clause-response
returns-clause-response g c = λ lawful.
    responds g.R.ResolverSet g.P.Turns (seen c.args.resolvers.now c.args.turns.now) (seen c.execute_by_key.new.resolvers c.execute_by_key.new.turns)
    (asks c.args.self.now c.args.request.now) grouping.ByKey lawful c.execute_by_key.result c.execute_by_key.ensures.executed

pub returns-clause-world : goal.returns-clause-world
returns-clause-world g c = λ lawful.
    leaves g.R.ResolverSet g.P.Turns (seen c.args.resolvers.now c.args.turns.now) (seen c.execute_by_key.new.resolvers c.execute_by_key.new.turns)
    (asks c.args.self.now c.args.request.now) grouping.ByKey lawful c.execute_by_key.result c.execute_by_key.ensures.executed c.execute_by_key.ensures.stopped

pub returns-clause-refused : goal.returns-clause-refused
returns-clause-refused g c = λ refusal is.
    refuses g.R.ResolverSet g.P.Turns (seen c.args.resolvers.now c.args.turns.now) (seen c.execute_by_key.new.resolvers c.execute_by_key.new.turns)
    (asks c.args.self.now c.args.request.now) grouping.ByKey refusal is c.execute_by_key.result c.execute_by_key.ensures.executed

pub returns-clause-untouched : goal.returns-clause-untouched
returns-clause-untouched g c = λ refusal is.
    let same = untouched g.R.ResolverSet g.P.Turns (seen c.args.resolvers.now c.args.turns.now) (seen c.execute_by_key.new.resolvers c.execute_by_key.new.turns)
    (asks c.args.self.now c.args.request.now) grouping.ByKey refusal is c.execute_by_key.result c.execute_by_key.ensures.executed c.execute_by_key.ensures.stopped in (
      same.0,
      same.1,
      counts_no_refusal g.R.ResolverSet c.args.resolvers.now (asks c.args.self.now c.args.request.now) c.args.steps.now c.execute_by_key.new.steps
          grouping.ByKey refusal is c.execute_by_key.result c.execute_by_key.ensures.asked,
    )

pub returns-clause-record : goal.returns-clause-record
returns-clause-record g c = λ lawful.
    tells g.R.ResolverSet g.P.Turns (seen c.args.resolvers.now c.args.turns.now) (seen c.execute_by_key.new.resolvers c.execute_by_key.new.turns)
    (asks c.args.self.now c.args.request.now) grouping.ByKey lawful c.execute_by_key.result c.execute_by_key.ensures.executed

pub returns-clause-idle : goal.returns-clause-idle
returns-clause-idle g c = λ only.
    let same = c.execute_by_key.ensures.idle only in
    (ap (λ (m : Seen _ _). m.set) same, ap (λ (m : Seen _ _). m.turns) same)

pub returns-clause-asked : goal.returns-clause-asked
returns-clause-asked g c = λ lawful.
    counts_answers g.R.ResolverSet c.args.resolvers.now (asks c.args.self.now c.args.request.now) c.args.steps.now c.execute_by_key.new.steps
    lawful c.execute_by_key.result c.execute_by_key.ensures.asked
