use Rattle.std.proofs.Common.{sym, subst}
use Rattle.gql_collect.specs.Nesting.{AllNest}
use Rattle.gql_objects.proofs.ObjectLevelLemmas.{fields_nest}
use Rattle.gql_objects.proofs.make_parents.make_level.Goals as goal

pub level_of-requires : goal.level_of-requires
level_of-requires c = record {
  nest = subst (AllNest c.args.node.now.basis.env.now) (sym c.in_ok-fields.ensures) (fields_nest c.args.node.now c.args.object.now);
}
