use Rattle.gql_cli.proofs.GivesLemmas.{answer_held}
use Rattle.gql_tasks.specs.Progress.{seen}
use Rattle.gql_cli.proofs.answer.answer_by.Goals as goal

pub returns : goal.returns
returns g c =
    answer_held g.M.Set.ResolverSet c.args.bench (seen c.in_ok-set.set c.new-turns.result) (seen c.answer_over-answer.new.set c.answer_over-answer.new.turns)
    record {
      lawful = c.in_ok-set.ensures.lawful;
      paced = c.in_ok-set.ensures.paced;
      serves = record {
        answers = c.in_ok-set.ensures.answer;
        effects = c.in_ok-set.ensures.effect;
        delays = c.in_ok-set.ensures.delay;
      };
      told = c.in_ok-set.ensures.told;
      world = c.in_ok-set.ensures.world;
      turns = c.new-turns.ensures;
    }
    (g.M.Tables.held c.take_back.new.self) c.take_back.ensures c.answer_over-answer.result c.answer_over-answer.ensures
