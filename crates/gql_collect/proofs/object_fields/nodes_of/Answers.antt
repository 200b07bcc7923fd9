use Rattle.std.proofs.Common.{List, map, ap, subst, ◌∙◌}
use Rattle.std.specs.Vec.Iter.{into_iter_items}
use Rattle.gql_collect.specs.Groups.{united}
use Rattle.gql_collect.specs.Levels.{asked_by}
use Rattle.gql_collect.specs.Nesting.{AllNest}
use Rattle.gql_collect.specs.declared.group.Group.{Group}
use Rattle.gql_collect.proofs.LevelLemmas.{nodes_more}
use Rattle.gql_collect.proofs.object_fields.nodes_of.Goals as goal

pub node_of-requires : goal.node_of-requires
node_of-requires c = record {
  nests = (subst (λ (gs : List Group). AllNest c.args.basis.now.env.now (map united gs)) c.in-Some.ensures.steps.0 c.loop-group.invariant.nest).0;
}

pub loop-group-preserved : goal.loop-group-preserved
loop-group-preserved c =
    let here = c.in-Some.ensures.steps.0 in
    record {
      nest = (subst (λ (gs : List Group). AllNest c.args.basis.now.env.now (map united gs)) here c.loop-group.invariant.nest).1;
      nodes = nodes_more c.args.basis.now c.args.object.now c.loop-group.nodes.items c.push.new.self.items c.in_ok-new.field-0
          (into_iter_items c.loop-group.group-iterator) (into_iter_items c.next.new.self) c.in-Some.group _ here c.in_ok-push.ensures.items
          (ap asked_by c.in_ok-new.ensures.ok ∙ c.in_ok-node.ensures) c.loop-group.invariant.nodes;
    }
