use Rattle.std.proofs.Common.{ap, ◌∙◌}
use Rattle.gql_collect.specs.GroupFields.{collected}
use Rattle.gql_engine.specs.ExecuteQuery.{basis_by}
use Rattle.gql_engine.proofs.QueryLemmas.{root_nest}
use Rattle.gql_engine.proofs.execute_query.root_level.Goals as goal

pub level_of-requires : goal.level_of-requires
level_of-requires g c =
    let object = c.type_name-object.result.now in
    record {
      nest = root_nest c.args.by c.args.scene.now object _
          (c.in_ok-fields.ensures ∙ ap (collected c.args.by (basis_by c.args.by c.args.scene.now) object) c.as_slice-selections.ensures);
    }
