use Rattle.std.proofs.Common.{arith, [], length, refl, subst, sym, append-nil}
use Rattle.std.proofs.lemmas.Option.{slice_get_read}
use Rattle.gql_fields.specs.ArgumentViews.{bearing_behind, table_behind}
use Rattle.gql_fields.specs.Arguments.{argument_name, told_of_argument}
use Rattle.gql_fields.specs.GivenNames.{AreNames}
use Rattle.gql_fields.proofs.AlongLemmas.{along_step, named_along, none_named}
use Rattle.gql_fields.proofs.ArgumentLemmas.{told_kept}
use Rattle.gql_fields.proofs.arguments.tell_given.Goals as goal

pub loop-argument-init : goal.loop-argument-init
loop-argument-init c = record {
  found = sym (append-nil c.args.found.now);
  given = subst (λ kept. AreNames [] kept) (sym c.requires) none_named;
}

pub loop-argument-preserved : goal.loop-argument-preserved
loop-argument-preserved c =
    let table = table_behind c.args.bearing.now in
    let bearing = bearing_behind c.args.bearing.now in
    let arguments = c.args.arguments.now in
    let index = c.loop-argument.argument-index in
    let argument = c.argument-item.result in
    let at = slice_get_read arguments (length arguments) index argument refl (omega arith) c.argument-item.is in
    record {
      found =
          along_step argument_name (told_of_argument table bearing) (told_kept table bearing) arguments index argument c.loop-argument.given
          c.args.found.now c.loop-argument.found c.tell_argument.new.found at c.loop-argument.invariant.given
          c.loop-argument.invariant.found
          c.in_ok-tell_argument.ensures.found;
      given =
          named_along argument_name arguments index argument c.loop-argument.given c.tell_argument.new.given at
          c.loop-argument.invariant.given
          c.in_ok-tell_argument.ensures.given;
    }
