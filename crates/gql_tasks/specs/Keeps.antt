-- What executions keep of what their callers lend them, whether they end well or not.
use Rattle.std.specs.Prelude.{ℕ, ◌≡◌}
use Rattle.gql_resolve.specs.declared.resolver_set.ResolverSet.{Ghosts as Resolving}
use Rattle.gql_tasks.specs.declared.rounds.Rounds.{Ghosts as Hooking}
use Rattle.gql_tasks.specs.declared.run.Run.{Run}
use Rattle.gql_tasks.specs.Steps.{IsCounted}

-- the names of the references by which a set, hooks, turns and steps are lent
pub record Lent : Type 0 where
  pub set : ℕ
  pub hooks : ℕ
  pub turns : ℕ
  pub steps : ℕ

-- the same are lent still, so that whoever lent them sees what became of them
pub record SameLent (old new : Lent) : Type 0 where
  pub set_is : new.set ≡ old.set
  pub hooks_is : new.hooks ≡ old.hooks
  pub turns_is : new.turns ≡ old.turns
  pub steps_is : new.steps ≡ old.steps

-- the names of the references of a run
abbrev pub lent_to : {R H P S Own World Future : Type 0} → Run R H P S Own World Future → Lent
lent_to run = record {
  set = run.set.ghost_name;
  hooks = run.hooks.ghost_name;
  turns = run.turns.ghost_name;
  steps = run.steps.ghost_name;
}

module _ {R Own World Future : Type 0} (set : Resolving R Own World Future) where
  -- what is kept of a resolver set: its rules, that it is lawful, and that it is paced
  pub record KeepsSet (old new : R) : Type 0 where
    pub rules_is : set.rules new ≡ set.rules old
    pub lawful_is : set.is_lawful old → set.is_lawful new
    pub paced_is : set.is_paced old → set.is_paced new

  -- what is kept of a run: the set so far, that the hooks are quiet, and a step for each task that
  -- began
  pub record Keeps {H P S : Type 0} (hooks : Hooking H)
      (old new : Run R H P S Own World Future) : Type 0 where
    pub lent_is : SameLent (lent_to old) (lent_to new)
    pub set_is : KeepsSet old.set.now new.set.now
    pub quiet_is : hooks.are_quiet old.hooks.now → hooks.are_quiet new.hooks.now
    pub counted : IsCounted (set.begun old.set.now) (set.begun new.set.now) old.steps.now
        new.steps.now
