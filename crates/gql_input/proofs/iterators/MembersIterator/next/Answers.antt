use Rattle.gql_input.proofs.LeftLemmas.{next_left}
use Rattle.gql_input.proofs.iterators.MembersIterator.next.Goals as goal

pub returns-then-self-len-clause-steps : goal.returns-then-self-len-clause-steps
returns-then-self-len-clause-steps c =
    rw c.new.ensures (next_left c.args.self.now.members.now c.args.self.now.place (c.at.result.0.now, c.at.result.1.now) c.at.ensures)
