use Rattle.std.proofs.Common.{◌≡◌, ◌++◌, ◌∙◌}
use Rattle.gql_fields.specs.UsePlaceViews.{shown}
use Rattle.gql_fields.specs.Walk.{terms_in}
use Rattle.gql_rules.specs.AlikeOperations.{definitions_of}
use Rattle.gql_rules.specs.VariableUses.{uses_told}
use Rattle.gql_rules.proofs.reached_uses.tell_operation.Goals as goal

pub returns : goal.returns
returns c =
    let defined : c.new-defined.result ≡ definitions_of c.args.listed.now = c.new-defined.ensures ∙ c.as_slice-definitions.ensures in
    c.in_ok-tell_uses.ensures
    ∙ (λ i. c.args.found.now ++ uses_told c.args.against.now.built.now (terms_in c.args.against.now) (defined i) (shown (c.as_slice.ensures
    i)))
