use Rattle.std.proofs.Math.Logic.{∥∥₁_map}
use Rattle.gql_tasks.specs.Progress.{seen}
use Rattle.gql_serve.specs.Adding.{entry_of}
use Rattle.gql_serve.proofs.JournalLemmas.{keeps_more}
use Rattle.gql_serve.proofs.book.Book.serve.Goals as goal

pub invariant_of-self-2 : goal.invariant_of-self-2
invariant_of-self-2 g c = record {
  keeps = ∥∥₁_map c.args.self.now.keeps
      (keeps_more g.R.ResolverSet g.P.Turns c.args.self.now.first.value
      (seen c.args.self.now.resolvers c.args.turns.now) (seen c.execute_bare-answer.new.resolvers c.execute_bare-answer.new.turns)
      c.args.self.now.origin _ _ _ _
      (entry_of c.args.caller c.in-Ok.room.place c.args.request.now c.outcome_of-outcome.result) c.args.schema.now
      c.execute_bare-answer.result c.execute_bare-answer.ensures c.outcome_of-outcome.ensures
      _ c.make_room.ensures.schemas c.write.ensures.schemas c.write.ensures.there
      _ c.make_room.ensures.entries c.write.ensures.entries);
}
