-- The levels of objects, made of the groups of their fields.
use Rattle.std.proofs.Common.{◌≡◌, ℕ, List, [], length, map, ap, sym, ◌∙◌, subst}
use Rattle.std.proofs.lemmas.List.{length-map}
use Rattle.std.specs.List.{zip}
use Rattle.std.specs.declared.alloc.Global.{Global}
use Rattle.std.specs.declared.rc.Rc.{Rc}
use Rattle.gql_base.specs.Pairs.{values_of}
use Rattle.gql_doc.specs.Depth.{field_set}
use Rattle.gql_doc.specs.declared.document.Field.{Field}
use Rattle.gql_doc.specs.declared.document.Positioned.{Positioned}
use Rattle.gql_request.specs.QueryEnv.{levels_of, NestsIn}
use Rattle.gql_select.specs.Collected.{Setting}
use Rattle.gql_collect.specs.Basis.{setting_by}
use Rattle.gql_collect.specs.GroupFields.{groups_by}
use Rattle.gql_collect.specs.Groups.{under_names, united}
use Rattle.gql_collect.specs.Levels.{asked_behind, asked_of, asked_on}
use Rattle.gql_collect.specs.Nesting.{AllNest}
use Rattle.gql_collect.specs.declared.basis.Basis.{Basis}
use Rattle.gql_collect.specs.declared.basis.Grouping.{Grouping}
use Rattle.gql_collect.specs.declared.group.Group.{Group}
use Rattle.gql_collect.specs.declared.level.Node.{Node}
use Rattle.gql_collect.proofs.LevelLemmas.{asked_zipped}
use Rattle.gql_select.proofs.NestLemmas.{both_nests}
use Rattle.gql_collect.proofs.LevelLemmas.{zip_values}
use Rattle.gql_collect.proofs.NestingLemmas.{groups_all}

module _ (basis : Basis) (by : Grouping) (names : List (List ℕ)) (groups : List Group) (fields : List (Positioned Field)) where
  -- the groups of fields that nest do
  pub groups_nest : length groups ≡ length names → ((setting : Setting) → under_names names groups ≡ groups_by by setting fields)
      → AllNest basis.env.now fields → AllNest basis.env.now (map united groups)
  groups_nest long is nest =
      subst (AllNest basis.env.now)
      (ap values_of (sym (is (setting_by basis)))
      ∙ zip_values names (map united groups) (length-map groups united ∙ long))
      (groups_all (λ field. NestsIn basis.env.now (field_set field)) (both_nests (setting_by basis) [] (levels_of basis.env.now))
      by (setting_by basis) fields nest)

  module _ (object : List ℕ) (nodes : List (Rc Node Global)) (made : map asked_behind nodes ≡ map (asked_of basis object) (map united groups)) where
    -- each key has a node
    pub nodes_paired : length groups ≡ length names → length nodes ≡ length names
    nodes_paired long =
        sym (length-map nodes asked_behind) ∙ ap length made
        ∙ length-map (map united groups) (asked_of basis object) ∙ length-map groups united ∙ long

    -- the nodes under their keys are the fields of the groups, each with what it asks
    pub nodes_asked : ((setting : Setting) → under_names names groups ≡ groups_by by setting fields)
        → zip names (map asked_behind nodes) ≡ asked_on basis object (groups_by by (setting_by basis) fields)
    nodes_asked is =
        ap (zip names) made
        ∙ sym (asked_zipped basis object names (map united groups))
        ∙ ap (asked_on basis object) (is (setting_by basis))
