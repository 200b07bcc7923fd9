use Rattle.std.proofs.Common.{ap, sym, subst, ◌∙◌}
use Rattle.gql_base.specs.Pairs.{put}
use Rattle.gql_objects.specs.ObjectLevels.{AreBeneath, IsBeneath}
use Rattle.gql_objects.proofs.ObjectLevelLemmas.{more_beneath}
use Rattle.gql_objects.proofs.make_parents.add_level.Goals as goal

pub returns-clause-kept : goal.returns-clause-kept
returns-clause-kept c =
    let beneath =
    subst (IsBeneath c.args.node.now c.args.object.now) (sym (c.in_ok-clone.ensures.cases ∙ c.in_ok-level.ensures.ok))
    c.in_ok-make_level.ensures in
    subst (AreBeneath c.args.node.now)
    (sym (c.in_ok-add.ensures.put ∙ ap (λ name. put c.args.levels.now name c.in_ok-clone.field-0) c.in_ok-new.ensures))
    (more_beneath c.args.node.now c.args.levels.now c.args.object.now c.in_ok-clone.field-0 c.requires beneath)
