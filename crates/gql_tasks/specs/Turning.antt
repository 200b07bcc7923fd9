-- What a turn leaves of its run.
use Rattle.std.specs.Prelude.{ℕ, ◌≡◌, ◌+◌, Result, OnOk, OnErr, length, map}
use Rattle.gql_request.specs.declared.resolve_info.ResolveInfo.{ResolveInfo}
use Rattle.gql_resolve.specs.Record.{with_more}
use Rattle.gql_resolve.specs.declared.resolver_context.ResolverContext.{ResolverContext}
use Rattle.gql_resolve.specs.declared.resolver_set.ResolverSet.{Ghosts as Resolving}
use Rattle.gql_tasks.specs.declared.arena.State.{State}
use Rattle.gql_tasks.specs.declared.arena.Turn.{Turn}
use Rattle.gql_tasks.specs.declared.rounds.Rounds.{Ghosts as Hooking}
use Rattle.gql_tasks.specs.declared.run.Run.{Run}
use Rattle.gql_tasks.specs.Keeps.{Keeps}
use Rattle.gql_tasks.specs.Rounds.{event_of}
use Rattle.gql_tasks.specs.Turn.{BeginsAtMost, EntersAtMost, PutKeeps, begins_now, enters_now}

module _ {R H P S Own World Future : Type 0} where
  -- the run is kept, and so are the turns, and the set where a hook put something in the place of
  -- the answer
  pub record TurnKeeps {E : Type 0} (set : Resolving R Own World Future) (hooks : Hooking H)
      (old new : Run R H P S Own World Future) (result : Result (Turn Own) E) : Type 0 where
    pub run_is : Keeps set hooks old new
    pub turns_is : new.turns.now ≡ old.turns.now
    pub put_is : PutKeeps old.set.now new.set.now result

  -- the hooks of a fresh task are entered, or may be where memory ran out
  pub record EntersOnce {T E : Type 0} (hooks : Hooking H) (context : ResolverContext Own)
      (info : ResolveInfo) (was : State Future) (old new : Run R H P S Own World Future)
      (result : Result T E) : Type 0 where
    pub entered : OnOk result (hooks.told new.hooks.now ≡ with_more (hooks.told old.hooks.now)
        (map (event_of hooks) (enters_now context info was)))
    pub unentered : OnErr result (EntersAtMost
        (map (event_of hooks) (enters_now context info was))
        (hooks.told old.hooks.now) (hooks.told new.hooks.now))

  -- a fresh task begins with a step, or may have begun where memory ran out
  pub record BeginsOnce {T E : Type 0} (set : Resolving R Own World Future) (task : ℕ)
      (was : State Future) (old new : Run R H P S Own World Future)
      (result : Result T E) : Type 0 where
    pub begun : OnOk result (set.begun new.set.now
        ≡ with_more (set.begun old.set.now) (begins_now task was))
    pub unbegun : OnErr result
        (BeginsAtMost (begins_now task was) (set.begun old.set.now) (set.begun new.set.now))
    pub stepped : OnOk result (new.steps.now ≡ old.steps.now + length (begins_now task was))
