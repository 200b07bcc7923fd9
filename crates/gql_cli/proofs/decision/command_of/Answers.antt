use Rattle.std.proofs.Common.{◌≡◌, [], ◌∷◌, MatchOption, Some, length, string_bytes, subst, arith}
use Rattle.gql_cli.specs.Run.{IsOfCommand}
use Rattle.gql_cli.specs.Command.{words_for}
use Rattle.gql_cli.proofs.Words.{map-one}
use Rattle.gql_cli.proofs.decision.command_of.Goals as goal

pub returns-in-len1 : goal.returns-in-len1
returns-in-len1 c =
    let size : length c.args.words.now ≡ 1 = omega arith in
    rw (map-one string_bytes c.args.words.now c.word-item.result size c.word-item.is)
    (subst (λ word. MatchOption c.command_named.result (¬ IsOfCommand (word ∷ [])) (λ command. words_for command ≡ Some (word ∷ []))) c.as_str.ensures.value
    c.command_named.ensures)
