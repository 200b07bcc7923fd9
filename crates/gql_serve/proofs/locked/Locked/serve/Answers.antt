use Rattle.gql_tasks.specs.Progress.{seen}
use Rattle.gql_serve.specs.Journal.{journal_with}
use Rattle.gql_serve.proofs.ServedLemmas.{answered}
use Rattle.gql_serve.proofs.locked.Locked.serve.Goals as goal

pub returns-then-len-before-clause-answered : goal.returns-then-len-before-clause-answered
returns-then-len-before-clause-answered g c =
    answered g.R.ResolverSet g.P.Turns g.L.Roll.begins c.args.self.now.book.first.value
    c.args.self.now.book.origin (journal_with c.args.self.now.book.schemas.items c.args.self.now.book.entries.items)
    c.args.schema.now c.args.request.now
    (seen c.args.self.now.book.resolvers c.args.turns.now) (seen c.serve-answer.new.self.resolvers c.serve-answer.new.turns)
    c.serve-answer.result
    c.args.self.now.begun c.args.self.now.book.keeps c.serve-answer.ensures.executed
