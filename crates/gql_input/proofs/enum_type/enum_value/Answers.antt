use Rattle.std.proofs.Common.{rules, ◌≡◌, Some, option_map, ap, sym, ◌∙◌}
use Rattle.gql_base.specs.Kinds.{enum_name_of}
use Rattle.gql_base.specs.declared.value.Value.{the_lemmas}
use Rattle.gql_base.specs.declared.value.Value.TheVariants as values
use Rattle.gql_input.specs.EnumType.{name_of_item}
use Rattle.gql_input.proofs.EnumLemmas.{given_back, read_back}
use Rattle.gql_input.proofs.enum_type.enum_value.Goals as goal

pub returns-clause-reads_back : goal.returns-clause-reads_back
returns-clause-reads_back g c distinct =
    let name = c.in_ok-new-in-Some.field-0 in
    let named = ap (name_of_item g.T.PartialEq.eq c.args.value) (sym c.items.ensures) ∙ sym c.name_for.ensures
    ∙ ap (option_map (λ name. name.now)) c.in-Some.is ∙ ap Some (sym c.in_ok-new-in-Some.ensures) in
    let is : enum_name_of (values.Enum name) ≡ Some name = search (rules, the_lemmas) in
    read_back g.T.PartialEq.eq c.args.value name (values.Enum name) g.T.EnumType.listed distinct named is

pub returns-clause-gives_back : goal.returns-clause-gives_back
returns-clause-gives_back g c distinct =
    let name = c.in_ok-new-in-Some.field-0 in
    let named = ap (name_of_item g.T.PartialEq.eq c.args.value) (sym c.items.ensures) ∙ sym c.name_for.ensures
    ∙ ap (option_map (λ name. name.now)) c.in-Some.is ∙ ap Some (sym c.in_ok-new-in-Some.ensures) in
    let is : enum_name_of (values.Enum name) ≡ Some name = search (rules, the_lemmas) in
    given_back g.T.PartialEq.eq c.args.value name (values.Enum name) g.T.EnumType.listed distinct named is
