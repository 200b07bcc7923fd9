-- What the tasks of a scene come to, and that it is what the meaning of execution says of the
-- operation as it is written.
use Rattle.std.specs.Prelude.{◌≡◌, ℕ, Bool, true, false}
use Rattle.gql_collect.specs.declared.basis.Grouping.{Grouping}
use Rattle.gql_engine.specs.ExecuteMutation.{last_world_of, serial_apart_response, serial_response}
use Rattle.gql_engine.specs.ExecuteQuery.{apart_response, merged_response}
use Rattle.gql_engine.specs.TaskCounts.{count_by, merged_count, serial_count, serial_count_by}
use Rattle.gql_engine.specs.declared.scene.Scene.{Scene}
use Rattle.gql_meaning.specs.Counted.{answers_asked}
use Rattle.gql_meaning.specs.Responses.{place_apart, place_merged, world_left, Written}
use Rattle.gql_meaning.specs.Served.{Served}
use Rattle.gql_place.specs.declared.place.Place.{Place}
use Rattle.gql_request.specs.QueryEnv.{levels_of}
use Rattle.gql_resolve.specs.Call.{is_mutation}

-- whether a scene's operation is a mutation
abbrev pub mutates : {V : Type 0} → Scene V → Bool
mutates scene = is_mutation scene.env.now.operation.node.ty

-- each of a mutation, or of another operation
module _ {V W : Type 0} (served : Served V W) where
  -- the place of the whole response by merged execution
  abbrev pub place_by : Bool → Scene V → Place
  place_by true scene =
      serial_response scene served.answer served.effect served.world (levels_of scene.env.now)
  place_by false scene =
      merged_response scene (λ call. served.answer call served.world) (levels_of scene.env.now)

  -- the same by apart execution
  abbrev pub apart_place_by : Bool → Scene V → Place
  apart_place_by true scene =
      serial_apart_response scene served.answer served.effect served.world
      (levels_of scene.env.now)
  apart_place_by false scene =
      apart_response scene (λ call. served.answer call served.world) (levels_of scene.env.now)

  -- the world after it
  abbrev pub world_after_scene : Bool → Scene V → W
  world_after_scene true scene = last_world_of scene served.effect served.world
  world_after_scene false scene = served.world

  -- the answers that merged execution asks
  abbrev pub answers_by : Bool → Scene V → ℕ
  answers_by true scene =
      serial_count scene served.answer served.effect served.world (levels_of scene.env.now)
  answers_by false scene =
      merged_count scene (λ call. served.answer call served.world) (levels_of scene.env.now)

  -- the tasks, where occurrences are grouped so
  abbrev pub tasks_by : Grouping → Bool → Scene V → ℕ
  tasks_by by true scene =
      serial_count_by scene served.answer served.effect served.world (levels_of scene.env.now) by
  tasks_by by false scene =
      count_by scene (λ call. served.answer call served.world) (levels_of scene.env.now) by

-- a scene comes to what the operation comes to as it is written
pub record IsJoined {V W : Type 0} (served : Served V W) (scene : Scene V) (written : Written V)
    : Type 0 where
  pub mutates_is : mutates scene ≡ written.mutates
  pub merged : place_by served (mutates scene) scene ≡ place_merged served written
  pub apart : apart_place_by served (mutates scene) scene ≡ place_apart served written
  pub world : world_after_scene served (mutates scene) scene ≡ world_left served written
  pub asked : answers_by served (mutates scene) scene ≡ answers_asked served written
