use Rattle.std.proofs.Common.{arith, [], length, refl, subst, sym, append-nil}
use Rattle.std.proofs.lemmas.Option.{slice_get_read}
use Rattle.std.specs.Option.{option_copied}
use Rattle.gql_fields.specs.Walk.{terms_in}
use Rattle.gql_fields.specs.GivenNames.{AreNames}
use Rattle.gql_fields.proofs.AlongLemmas.{along_step, named_along, none_named}
use Rattle.gql_rules.specs.VariableDefinitions.{definition_name, told_of_definition}
use Rattle.gql_rules.proofs.DefinitionLemmas.{told_kept}
use Rattle.gql_rules.proofs.variable_definitions.tell_definitions.Goals as goal

pub loop-definition-init : goal.loop-definition-init
loop-definition-init c = record {
  found = sym (append-nil c.args.found.now);
  before = subst (λ kept. AreNames [] kept) (sym c.new-before.ensures) none_named;
}

pub loop-definition-preserved : goal.loop-definition-preserved
loop-definition-preserved c =
    let table = (terms_in c.args.against.now).table in
    let given = option_copied c.args.given in
    let definitions = c.args.definitions.now in
    let index = c.loop-definition.definition-index in
    let definition = c.definition-item.result in
    let at = slice_get_read definitions (length definitions) index definition refl (omega arith) c.definition-item.is in
    record {
      found =
          along_step definition_name (told_of_definition table given) (told_kept table given) definitions index definition c.loop-definition.before
          c.args.found.now c.loop-definition.found c.tell_definition.new.found at c.loop-definition.invariant.before c.loop-definition.invariant.found
          c.in_ok-tell_definition.ensures.found;
      before =
          named_along definition_name definitions index definition c.loop-definition.before c.tell_definition.new.before at
          c.loop-definition.invariant.before c.in_ok-tell_definition.ensures.before;
    }
