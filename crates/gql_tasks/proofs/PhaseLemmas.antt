-- The phase of a root key: its answer, and all under it.
use Rattle.std.proofs.Common.{◌≡◌, true, false, if◌then◌else◌, [], sym, ap, ◌∙◌, inr}
use Rattle.gql_base.specs.declared.no_memory.NoMemory.{NoMemory}
use Rattle.gql_tasks.specs.Parts.{Parts, Moment, choice_by, due_by, subject}
use Rattle.gql_tasks.specs.Phases.{PhaseCut, PhaseOver, phase_answers}
use Rattle.gql_resolve.specs.declared.answer.Answer.{Answer}
use Rattle.gql_tasks.specs.Progress.{Agrees, Ended, Enters, EntersSoFar, Kept, Paces, ProgressSoFar, Steady, Went, story_of}
use Rattle.gql_tasks.specs.Root.{RootAnswered, RootEnded, without_root}
use Rattle.gql_tasks.proofs.PaceLemmas.{paces_trans}
use Rattle.gql_tasks.proofs.ProgressLemmas.{steady_trans, stepped_on}
use Rattle.gql_tasks.proofs.RecordLemmas.{ran_trans}
use Rattle.gql_tasks.proofs.RoundLemmas.{enters_trans, so_far_enters_trans}
use Rattle.gql_tasks.proofs.SoFarLemmas.{so_far_trans}

module _ {R Own World Future L H P : Type 0} (e : Parts R Own World Future L H P) (old : Moment R Future L H P) (root : e.plan.Task) where
  -- the answers of a phase: a root is asked in the world before it
  root_agrees : e.root ≡ true → Agrees (subject e) e.root (due_by e.set old.set) (phase_answers e old root)
  root_agrees is_root = record {
    agrees = λ task is. ap (λ b. if b then e.set.answer (e.set.rules old.set) (e.plan.asks task).call (e.set.world old.set)
        else e.set.answer (e.set.rules old.set) (e.plan.asks task).call (e.set.effect (e.set.rules old.set) (e.plan.asks root).call (e.set.world old.set))) (is ∙ is_root);
  }

  -- and all others in the world after it
  others_agree : (middle : Moment R Future L H P) → e.set.rules middle.set ≡ e.set.rules old.set
      → e.set.world middle.set ≡ e.set.effect (e.set.rules old.set) (e.plan.asks root).call (e.set.world old.set)
      → Agrees (subject e) false (due_by e.set middle.set) (phase_answers e old root)
  others_agree middle rules_is world_is = record {
    agrees = λ task is.
        ap (λ b. if b then e.set.answer (e.set.rules old.set) (e.plan.asks task).call (e.set.world old.set)
        else e.set.answer (e.set.rules old.set) (e.plan.asks task).call (e.set.effect (e.set.rules old.set) (e.plan.asks root).call (e.set.world old.set))) is
        ∙ ap (e.set.answer (e.set.rules old.set) (e.plan.asks task).call) (sym world_is)
        ∙ ap (λ r. e.set.answer r (e.plan.asks task).call (e.set.world middle.set)) (sym rules_is);
  }

module _ {R Own World Future L H P : Type 0} {e : Parts R Own World Future L H P} where
  -- what is said of a stretch without roots is said of any
  as_steady : {old new : Moment R Future L H P} → Steady (without_root e) old new → Steady e old new
  as_steady s = record { lent_is = s.lent_is; rules_is = s.rules_is; lawful_is = s.lawful_is; paced_is = s.paced_is; quiet_is = s.quiet_is; counted = s.counted }

  as_enters : {old new : Moment R Future L H P} → Enters (without_root e) old new → Enters e old new
  as_enters s = record { stays = s.stays; rounds = s.rounds; once = s.once }

  as_enters_so_far : {old : Moment R Future L H P} {hooks : H} → EntersSoFar (without_root e) old hooks → EntersSoFar e old hooks
  as_enters_so_far s = record { made = s.made; stays = s.stays; rounds = s.rounds; once = s.once }

  as_paces : {old new : Moment R Future L H P} → Paces (without_root e) old new → Paces e old new
  as_paces s = record { entries = s.entries; told_is = s.told_is; stays = s.stays; splits = s.splits }

  as_so_far : {old new : Moment R Future L H P} {answers : e.plan.Task → Answer Own} → ProgressSoFar (without_root e) old new answers → ProgressSoFar e old new answers
  as_so_far s = record { stopped = s.stopped; paces = s.paces }

  -- a root that was answered, and all under it
  pub phase_over : {old middle new : Moment R Future L H P} → e.root ≡ true → RootAnswered e old middle → Kept (without_root e) middle new → Went (without_root e) middle new
      → new.waiting ≡ [] → PhaseOver e old new
  phase_over {old = old} {middle = middle} is_root one kept went none = record {
    steady = steady_trans one.steady (as_steady kept.steady);
    sound = went.sound;
    none = none;
    enters = enters_trans one.passed.enters (as_enters went.passed.enters);
    stepped = λ calm. stepped_on _ _ _ _ _ _ (one.passed.stepped calm) (went.passed.stepped (one.steady.quiet_is calm));
    world = λ law calm number task waits there. kept.world_is (one.steady.lawful_is law) ∙ one.world law calm number task waits there;
    progress = λ law calm root at.
        let answers = phase_answers e old root in
        let first = one.passed.progress law calm answers (root_agrees e old root is_root) in
        let second = went.passed.progress (one.steady.lawful_is law) (one.steady.quiet_is calm) answers
        (others_agree e old root middle one.steady.rules_is (one.world law calm at.number root at.alone at.there)) in
        record {
          right = λ base right. second.right base (first.right base right);
          ran = ran_trans e.plan.Task e.turns.State (choice_by e.turns) (story_of (subject e) answers) first.ran second.ran;
        };
    paces = λ pace calm. paces_trans one.steady.rules_is (one.passed.paces pace calm) (as_paces (went.passed.paces (one.steady.paced_is pace) (one.steady.quiet_is calm)));
  }

  -- memory ran out for the root
  pub phase_cut : {old new : Moment R Future L H P} (want : NoMemory) → e.root ≡ true → RootEnded e old new want → PhaseCut e old new want
  phase_cut {old = old} want is_root ended = record {
    steady = ended.steady;
    enters = ended.ended.enters;
    world = λ law calm. ended.world law;
    progress = λ law calm root at. ended.ended.progress law calm (phase_answers e old root) (root_agrees e old root is_root);
  }

  -- or for what is under it
  pub phase_cut_below : {old middle new : Moment R Future L H P} (want : NoMemory) → want.roots ≡ 1 → e.root ≡ true → RootAnswered e old middle
      → Kept (without_root e) middle new → Ended (without_root e) middle new → PhaseCut e old new want
  phase_cut_below {old = old} {middle = middle} want one_root is_root one kept ended = record {
    steady = steady_trans one.steady (as_steady kept.steady);
    enters = so_far_enters_trans one.passed.enters (as_enters_so_far ended.enters);
    world = λ law calm. inr (one_root, λ number task waits there. kept.world_is (one.steady.lawful_is law) ∙ one.world law calm number task waits there);
    progress = λ law calm root at.
        let answers = phase_answers e old root in
        so_far_trans one.steady.rules_is one.steady.paced_is (one.passed.progress law calm answers (root_agrees e old root is_root)) (λ pace. one.passed.paces pace calm)
        (as_so_far (ended.progress (one.steady.lawful_is law) (one.steady.quiet_is calm) answers
        (others_agree e old root middle one.steady.rules_is (one.world law calm at.number root at.alone at.there))));
  }
