use Rattle.std.proofs.Common.{◌≡◌, Some, refl, ap, sym, ◌∙◌}
use Rattle.std.specs.Option.{option_copied}
use Rattle.gql_base.specs.Pairs.{under}
use Rattle.gql_select.proofs.GivenLemmas.{index_joined, index_kept}
use Rattle.gql_select.proofs.given.add_first.Goals as goal

pub returns-in-Some : goal.returns-in-Some
returns-in-Some c =
    let there : under c.args.argument.now.name.node c.args.index.now ≡ Some c.in-Some.field-0.now
    = ap (λ name. under name c.args.index.now) (sym c.as_str.ensures) ∙ sym c.get.ensures ∙ ap option_copied c.in-Some.is in
    λ before is. index_kept before c.args.index.now is c.args.argument.now c.in-Some.field-0.now there

pub returns-in_ok-name-in-None : goal.returns-in_ok-name-in-None
returns-in_ok-name-in-None c =
    index_joined c.add_fresh.result c.args.index.now c.add_fresh.new.self c.args.argument.now c.in_ok-name-in-None.name _ c.in_ok-name-in-None.ensures refl c.add_fresh.ensures.added
