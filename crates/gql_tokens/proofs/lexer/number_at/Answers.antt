use Rattle.std.proofs.Common.{◌≡◌, arith}
use Rattle.gql_tokens.proofs.CutStands.{number_in, wide_in, float_in, no_number_in}
use Rattle.gql_tokens.proofs.lexer.number_at.Goals as goal

pub returns-in_default : goal.returns-in_default
returns-in_default c = no_number_in c.args.text.now c.requires.utf8 c.requires.first c.in_default.ensures

pub returns-then-numeral-gt0 : goal.returns-then-numeral-gt0
returns-then-numeral-gt0 c =
    let numeral = c.in-Some.numeral in
    float_in c.args.text.now numeral.integer numeral.part c.requires.utf8 c.in-Some.ensures c.requires.first (λ e. omega arith)

pub returns-in-Some-number_of : goal.returns-in-Some-number_of
returns-in-Some-number_of c =
    let numeral = c.in-Some.numeral in
    let none : numeral.part ≡ 0 = omega arith in
    let number = c.in-Some-number_of.ensures in
    number_in c.args.text.now numeral.integer numeral.part c.requires.utf8 c.in-Some.ensures c.requires.first c.in-Some-number_of.number none number.0 number.1

pub returns-in-None : goal.returns-in-None
returns-in-None c =
    let numeral = c.in-Some.numeral in
    let none : numeral.part ≡ 0 = omega arith in
    wide_in c.args.text.now numeral.integer numeral.part c.requires.utf8 c.in-Some.ensures c.requires.first none c.in-None.ensures
