-- Stretches of turns one after another.
use Rattle.std.proofs.Common.{ℕ, ◌≡◌, ◌+◌, refl, sym, ap, ◌∙◌, arith}
use Rattle.std.specs.Prelude.{Bool}
use Rattle.gql_resolve.specs.Call.{Call}
use Rattle.gql_resolve.specs.declared.answer.Answer.{Answer}
use Rattle.gql_tasks.specs.Arena.{Subject}
use Rattle.gql_tasks.specs.Parts.{Parts, Moment, choice_by, due_by, stage, subject}
use Rattle.gql_tasks.specs.Progress.{IsSound, Steady, Kept, Agrees, Passed, Went, Ended, story_of}
use Rattle.gql_tasks.proofs.KeepsLemmas.{lent_none, lent_trans}
use Rattle.gql_tasks.proofs.PaceLemmas.{paces_none, paces_trans}
use Rattle.gql_tasks.proofs.RecordLemmas.{ran_none, ran_trans}
use Rattle.gql_tasks.proofs.RoundLemmas.{enters_none, enters_trans, so_far_enters_trans}
use Rattle.gql_tasks.proofs.SoFarLemmas.{so_far_trans}
use Rattle.gql_tasks.proofs.StepLemmas.{none_counted, counted_on}

agrees_kept : {V Task : Type 0} {subject : Subject V Task} {root : Bool} (due due' : Call V → Answer V) (answers : Task → Answer V)
    → ((call : Call V) → due call ≡ due' call) → Agrees subject root due answers → Agrees subject root due' answers
agrees_kept {subject = subject} due due' answers same agrees = record { agrees = λ task is. agrees.agrees task is ∙ same (subject.call task) }

pub stepped_on : (a b c s t u : ℕ) → b + s ≡ a + t → c + t ≡ b + u → c + s ≡ a + u
stepped_on a b c s t u first second = omega (arith, first, second)

module _ {R Own World Future L H P : Type 0} {e : Parts R Own World Future L H P} where
  pub steady_none : (m : Moment R Future L H P) → Steady e m m
  steady_none m = record {
    lent_is = lent_none m.lent;
    rules_is = refl;
    lawful_is = λ law. law;
    paced_is = λ pace. pace;
    quiet_is = λ calm. calm;
    counted = none_counted _ _ _ _ refl refl;
  }

  pub steady_trans : {old middle new : Moment R Future L H P} → Steady e old middle → Steady e middle new → Steady e old new
  steady_trans one other = record {
    lent_is = lent_trans one.lent_is other.lent_is;
    rules_is = other.rules_is ∙ one.rules_is;
    lawful_is = λ law. other.lawful_is (one.lawful_is law);
    paced_is = λ pace. other.paced_is (one.paced_is pace);
    quiet_is = λ calm. other.quiet_is (one.quiet_is calm);
    counted = counted_on one.counted other.counted;
  }

  pub kept_none : (m : Moment R Future L H P) → Kept e m m
  kept_none m = record { steady = steady_none m; world_is = λ law. refl }

  pub kept_trans : {old middle new : Moment R Future L H P} → Kept e old middle → Kept e middle new → Kept e old new
  kept_trans one other = record {
    steady = steady_trans one.steady other.steady;
    world_is = λ law. other.world_is (one.steady.lawful_is law) ∙ one.world_is law;
  }

  -- what is due stays, since the rules and the world do
  due_kept : {old new : Moment R Future L H P} → Kept e old new → e.set.is_lawful old.set → (call : Call Own) → due_by e.set old.set call ≡ due_by e.set new.set call
  due_kept {old = old} {new = new} kept law call =
      ap (e.set.answer (e.set.rules old.set) call) (sym (kept.world_is law)) ∙ ap (λ r. e.set.answer r call (e.set.world new.set)) (sym kept.steady.rules_is)

  agrees_after : {old new : Moment R Future L H P} → Kept e old new → e.set.is_lawful old.set → (answers : e.plan.Task → Answer Own)
      → Agrees (subject e) e.root (due_by e.set old.set) answers → Agrees (subject e) e.root (due_by e.set new.set) answers
  agrees_after {old = old} {new = new} kept law answers agrees =
      agrees_kept (due_by e.set old.set) (due_by e.set new.set) answers (due_kept kept law) agrees

  pub passed_none : (m : Moment R Future L H P) → Passed e m m
  passed_none m = record {
    stays = λ n is. record { done = is; held = λ given held. held };
    enters = enters_none m m refl refl refl;
    stepped = λ calm. refl;
    progress = λ law calm answers agrees. record {
      right = λ base right. right;
      ran = ran_none e.plan.Task e.turns.State (choice_by e.turns) (story_of (subject e) answers) (stage e m);
    };
    paces = λ pace calm. paces_none m;
  }

  pub went_none : {m : Moment R Future L H P} → IsSound e m → Went e m m
  went_none {m = m} sound = record { sound = sound; passed = passed_none m }

  pub passed_trans : {old middle new : Moment R Future L H P} → Kept e old middle → Passed e old middle → Passed e middle new → Passed e old new
  passed_trans kept one other = record {
    stays = λ n is.
        let first = one.stays n is in
        let second = other.stays n first.done in
        record { done = second.done; held = λ given held. second.held given (first.held given held) };
    enters = enters_trans one.enters other.enters;
    stepped = λ calm. stepped_on _ _ _ _ _ _ (one.stepped calm) (other.stepped (kept.steady.quiet_is calm));
    progress = λ law calm answers agrees.
        let first = one.progress law calm answers agrees in
        let second = other.progress (kept.steady.lawful_is law) (kept.steady.quiet_is calm) answers (agrees_after kept law answers agrees) in
        record {
          right = λ base right. second.right base (first.right base right);
          ran = ran_trans e.plan.Task e.turns.State (choice_by e.turns) (story_of (subject e) answers) first.ran second.ran;
        };
    paces = λ pace calm. paces_trans kept.steady.rules_is (one.paces pace calm) (other.paces (kept.steady.paced_is pace) (kept.steady.quiet_is calm));
  }

  pub went_trans : {old middle new : Moment R Future L H P} → Kept e old middle → Went e old middle → Went e middle new → Went e old new
  went_trans kept one other = record { sound = other.sound; passed = passed_trans kept one.passed other.passed }

  pub ended_trans : {old middle new : Moment R Future L H P} → Kept e old middle → Passed e old middle → Ended e middle new → Ended e old new
  ended_trans kept one other = record {
    enters = so_far_enters_trans one.enters other.enters;
    progress = λ law calm answers agrees.
        so_far_trans kept.steady.rules_is kept.steady.paced_is (one.progress law calm answers agrees) (λ pace. one.paces pace calm)
        (other.progress (kept.steady.lawful_is law) (kept.steady.quiet_is calm) answers (agrees_after kept law answers agrees));
  }
