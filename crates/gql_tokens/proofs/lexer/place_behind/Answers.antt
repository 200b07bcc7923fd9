use Rattle.gql_tokens.proofs.CutSteps.{place_unbroken}
use Rattle.gql_tokens.proofs.lexer.place_behind.Goals as goal

pub returns-in-Punctuator-clause-exact : goal.returns-in-Punctuator-clause-exact
returns-in-Punctuator-clause-exact c = λ n cut spelled.
    place_unbroken c.args.pos c.args.lexeme.now c.args.text.now c.args.count n c.requires.utf8 c.requires.within c.in-Punctuator.is cut spelled
