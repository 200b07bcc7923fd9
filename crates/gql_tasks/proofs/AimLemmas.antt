-- A plan whose path is aimed at a task keeps its tasks and what it holds of them.
use Rattle.std.proofs.Common.{ℕ, ◌≡◌, [], length, refl, sym, ap, subst, ◌∙◌, arith}
use Rattle.std.specs.Prelude.{Some, slice_get}
use Rattle.gql_tasks.specs.declared.given.Given.{Given}
use Rattle.gql_tasks.specs.declared.given.Given.TheVariants.{Answered}
use Rattle.gql_tasks.specs.Arena.{made_of}
use Rattle.gql_tasks.specs.Parts.{Parts, Moment, choice_by, stage, subject}
use Rattle.gql_tasks.specs.Progress.{IsSound, Kept, EntersSoFar, Went, Ended, story_of}
use Rattle.gql_tasks.specs.Record.{Ran}
use Rattle.gql_tasks.proofs.KeepsLemmas.{lent_none}
use Rattle.gql_tasks.proofs.RecordLemmas.{ran_none, with_more_none}
use Rattle.gql_tasks.proofs.RoundLemmas.{enters_none, so_far_enters_none}
use Rattle.gql_tasks.proofs.SoFarLemmas.{so_far_none}
use Rattle.gql_tasks.proofs.SoundLemmas.{fits_kept}
use Rattle.gql_tasks.proofs.StepLemmas.{none_counted}
use Rattle.gql_tasks.proofs.TurnLemmas.{staged}

-- the moment with another plan
abbrev pub with_plan : {R Future L H P : Type 0} → Moment R Future L H P → L → Moment R Future L H P
with_plan old plan = record {
  plan = plan;
  states = old.states;
  waiting = old.waiting;
  set = old.set;
  hooks = old.hooks;
  turns = old.turns;
  steps = old.steps;
  lent = old.lent;
}

module _ {R Own World Future L H P : Type 0} {e : Parts R Own World Future L H P} where
  pub kept_aimed : (old : Moment R Future L H P) (plan : L) → Kept e old (with_plan old plan)
  kept_aimed old plan = record {
    steady = record {
      lent_is = lent_none old.lent;
      rules_is = refl;
      lawful_is = λ law. law;
      paced_is = λ pace. pace;
      quiet_is = λ calm. calm;
      counted = none_counted _ _ _ _ refl refl;
    };
    world_is = λ law. refl;
  }

  pub went_aimed : (old : Moment R Future L H P) (plan : L) → e.plan.tasks plan ≡ e.plan.tasks old.plan
      → ((other : ℕ) (g : Given Own) → e.plan.holds old.plan other g → e.plan.holds plan other g)
      → IsSound e old → Went e old (with_plan old plan)
  went_aimed old plan tasks_is keeps sound = record {
    sound = record {
      lengths = sound.lengths ∙ ap length (sym tasks_is);
      waits = sound.waits;
      fits = λ number task s task_is state_is.
          fits_kept Own e.plan.Task Future e.root e.set.is_for (subject e) (e.plan.holds old.plan number) (e.plan.holds plan number) (keeps number) (e.plan.asks task).call s
          (sound.fits number task s (before number task task_is) state_is);
    };
    passed = record {
      stays = λ n is. record { done = is; held = λ given held. keeps n given held };
      enters = enters_none old (with_plan old plan) tasks_is refl refl;
      stepped = λ calm. refl;
      progress = λ law calm answers agrees. record {
        right = λ base right. record {
          kept = λ number task above task_is state_is. keeps number (Answered (answers task)) (right.kept number task above (before number task task_is) state_is);
        };
        ran = subst
            (λ ts. Ran (choice_by e.turns) (story_of (subject e) answers) (stage e old)
            (staged (made_of ts old.states) (e.set.told old.set) (e.set.begun old.set) (e.turns.state old.turns))) (sym tasks_is)
            (ran_none e.plan.Task e.turns.State (choice_by e.turns) (story_of (subject e) answers) (stage e old));
      };
      paces = λ pace calm. record {
        entries = [];
        told_is = sym (with_more_none (e.set.told old.set));
        stays = λ k task is. ap (λ ts. slice_get ts k) tasks_is ∙ is;
        splits = λ k due is. refl;
      };
    };
  }
    where
      before : (number : ℕ) (task : e.plan.Task) → slice_get (e.plan.tasks plan) number ≡ Some task → slice_get (e.plan.tasks old.plan) number ≡ Some task
      before number task is = ap (λ ts. slice_get ts number) (sym tasks_is) ∙ is

  -- memory ran out before the turn
  pub ended_none : (old new : Moment R Future L H P) → new.set ≡ old.set → new.hooks ≡ old.hooks → Ended e old new
  ended_none old new set_is hooks_is = record {
    enters = subst (EntersSoFar e old) (sym hooks_is) (so_far_enters_none old);
    progress = λ law calm answers agrees.
        so_far_none old new answers [] (ap e.set.told set_is) (omega arith) tt (ap e.set.begun set_is ∙ sym (with_more_none (e.set.begun old.set)));
  }
