use Rattle.std.proofs.Common.{length, ap, sym, ◌∙◌}
use Rattle.gql_select.specs.Behind.{all_behind}
use Rattle.gql_collect.specs.KeyNames.{names_in}
use Rattle.gql_collect.proofs.NodesLemmas.{groups_nest, nodes_paired}
use Rattle.gql_collect.proofs.object_fields.level_of.Goals as goal

pub nodes_of-requires : goal.nodes_of-requires
nodes_of-requires c = record {
  nest = groups_nest c.args.basis.now c.args.grouping (names_in c.in_ok-keys.field-0.keys) c.in_ok-keys.field-0.groups.items (all_behind c.args.fields.items)
      c.in_ok-keys.field-0.paired c.in_ok-keys.ensures c.requires.nest;
}

pub invariant_of-result : goal.invariant_of-result
invariant_of-result c = record {
  paired =
      nodes_paired c.args.basis.now c.args.grouping (names_in c.in_ok-keys.field-0.keys) c.in_ok-keys.field-0.groups.items (all_behind c.args.fields.items)
      c.args.object.now c.in_ok-nodes.nodes.items c.in_ok-nodes.ensures c.in_ok-keys.field-0.paired
      ∙ ap (λ keys. length (names_in keys)) (sym c.in_ok-shared.ensures);
}
