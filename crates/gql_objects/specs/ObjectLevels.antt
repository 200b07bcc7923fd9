-- The levels of the objects under a field.
use Rattle.std.specs.Prelude.{◌≡◌, ℕ, List, Some, option_map}
use Rattle.std.specs.declared.alloc.Global.{Global}
use Rattle.std.specs.declared.rc.Rc.{Rc}
use Rattle.gql_base.specs.Pairs.{under}
use Rattle.gql_select.specs.Collected.{own_selections}
use Rattle.gql_collect.specs.Groups.{united}
use Rattle.gql_collect.specs.Levels.{asked_in, members_of}
use Rattle.gql_collect.specs.declared.level.Level.{Level}
use Rattle.gql_collect.specs.declared.level.Node.{Node}

-- a level that is shared
abbrev pub level_behind : Rc Level Global → Level
level_behind level = level.value

-- a level is that of the objects of a name under a field
pub record IsBeneath (node : Node) (object : List ℕ) (level : Level) : Type 0 where
  pub object_is : level.object ≡ object
  pub members_are : members_of level
      ≡ asked_in node.basis object (own_selections (united node.group))

-- levels that are kept under the names of their objects
pub record AreBeneath (node : Node) (levels : List (List ℕ × Rc Level Global)) : Type 0 where
  pub each : (object : List ℕ) (level : Level)
      → option_map level_behind (under object levels) ≡ Some level → IsBeneath node object level
