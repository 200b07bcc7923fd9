use Rattle.std.proofs.Common.{◌≡◌, ◌<◌, length, arith, sym, ap, subst, ◌∙◌, refl}
use Rattle.gql_resolve.specs.Call.{Call, call_of}
use Rattle.gql_tasks.specs.Keeps.{lent_to}
use Rattle.gql_tasks.specs.Parts.{parts_as, at}
use Rattle.gql_tasks.specs.Turn.{IsOpen}
use Rattle.gql_tasks.proofs.AdvanceLemmas.{went_begun, went_pending, completed_with, passed_answered, nearer_answered, ended_before, ended_after}
use Rattle.gql_tasks.proofs.AimLemmas.{ended_none}
use Rattle.gql_tasks.proofs.ArenaLemmas.{still_waits}
use Rattle.gql_lists.proofs.SliceLemmas.{length_set}
use Rattle.gql_tasks.proofs.KeepsLemmas.{lent_none}
use Rattle.gql_tasks.proofs.NearerLemmas.{nearer_begun, nearer_pending}
use Rattle.gql_tasks.proofs.PickLemmas.{open_undone}
use Rattle.gql_tasks.proofs.ProgressLemmas.{passed_trans, went_trans, ended_trans}
use Rattle.gql_tasks.proofs.RootLemmas.{advanced_err, no_world_left, sound_after, world_after, world_left}
use Rattle.gql_tasks.proofs.StepLemmas.{none_counted}
use Rattle.gql_tasks.proofs.UponLemmas.{upon, within}
use Rattle.gql_tasks.proofs.scheduler.advance.Goals as goal

pub aim-requires : goal.aim-requires
aim-requires g c =
    let first = at c.args.plan.now c.args.arena.now c.args.run.now in
    let inside = within {e = parts_as g.R.ResolverSet c.args.root g.L.Plan g.H.Rounds g.P.Turns} first c.pick_task-picked.result.place c.pick_task-picked.result.number c.requires.sound c.pick_task-picked.ensures.stands in
    inside.1

pub returns-in_err-aim-clause-turned : goal.returns-in_err-aim-clause-turned
returns-in_err-aim-clause-turned g c =
    let first = at c.args.plan.now c.args.arena.now c.args.run.now in
    advanced_err _ c.from_residual.result c.from_residual.ensures.1 (λ want none. record {
      steady = record { lent_is = lent_none first.lent; rules_is = refl; lawful_is = λ law. law; paced_is = λ pace. pace; quiet_is = λ calm. calm; counted = none_counted _ _ _ _ refl refl };
      ended = ended_none first _ refl refl;
      world = λ law. no_world_left (parts_as g.R.ResolverSet c.args.root g.L.Plan g.H.Rounds g.P.Turns) c.args.root _ _ want none refl;
    })

pub context-context-requires-clause-within : goal.context-context-requires-clause-within
context-context-requires-clause-within g c =
    let first = at c.args.plan.now c.args.arena.now c.args.run.now in
    let inside = within {e = parts_as g.R.ResolverSet c.args.root g.L.Plan g.H.Rounds g.P.Turns} first c.pick_task-picked.result.place c.pick_task-picked.result.number c.requires.sound c.pick_task-picked.ensures.stands in
    subst (λ ts. c.pick_task-picked.result.number < length ts) (sym c.aim.ensures.stays) inside.1

pub info-info-requires-clause-within : goal.info-info-requires-clause-within
info-info-requires-clause-within g c =
    let first = at c.args.plan.now c.args.arena.now c.args.run.now in
    let inside = within {e = parts_as g.R.ResolverSet c.args.root g.L.Plan g.H.Rounds g.P.Turns} first c.pick_task-picked.result.place c.pick_task-picked.result.number c.requires.sound c.pick_task-picked.ensures.stands in
    subst (λ ts. c.pick_task-picked.result.number < length ts) (sym c.aim.ensures.stays) inside.1

pub index_mut-requires : goal.index_mut-requires
index_mut-requires g c =
    let first = at c.args.plan.now c.args.arena.now c.args.run.now in
    let inside = within {e = parts_as g.R.ResolverSet c.args.root g.L.Plan g.H.Rounds g.P.Turns} first c.pick_task-picked.result.place c.pick_task-picked.result.number c.requires.sound c.pick_task-picked.ensures.stands in
    let bound = inside.0 in
    let ok = c.args.arena.now.states.ok.0 in
    omega arith

pub take_turn-requires-clause-open : goal.take_turn-requires-clause-open
take_turn-requires-clause-open g c =
    let first = at c.args.plan.now c.args.arena.now c.args.run.now in
    let u = upon {e = parts_as g.R.ResolverSet c.args.root g.L.Plan g.H.Rounds g.P.Turns} first c.aim.new.self c.pick_task-picked.new.turns c.pick_task-picked.result.place c.pick_task-picked.result.number c.index_mut.result.now
    c.context-context.result c.info-info.result c.aim.ensures.stays c.aim.ensures.keeps c.requires.sound c.pick_task-picked.ensures.stands c.index_mut.ensures.value
    c.context-context.ensures c.info-info.ensures c.pick_task-picked.ensures.choice c.pick_task-picked.ensures.after in
    subst (λ call. IsOpen g.R.ResolverSet.is_for call c.index_mut.result.now) (sym u.taken.context_is.call_is) u.taken.pick.open_is

pub take_turn-requires-clause-root : goal.take_turn-requires-clause-root
take_turn-requires-clause-root g c =
    let first = at c.args.plan.now c.args.arena.now c.args.run.now in
    let u = upon {e = parts_as g.R.ResolverSet c.args.root g.L.Plan g.H.Rounds g.P.Turns} first c.aim.new.self c.pick_task-picked.new.turns c.pick_task-picked.result.place c.pick_task-picked.result.number c.index_mut.result.now
    c.context-context.result c.info-info.result c.aim.ensures.stays c.aim.ensures.keeps c.requires.sound c.pick_task-picked.ensures.stands c.index_mut.ensures.value
    c.context-context.ensures c.info-info.ensures c.pick_task-picked.ensures.choice c.pick_task-picked.ensures.after in
    ap (λ (call : Call g.row.R-Own.Denot). call.is_root) u.taken.context_is.call_is ∙ u.taken.pick.not_root

pub returns-in_err-turn-clause-turned : goal.returns-in_err-turn-clause-turned
returns-in_err-turn-clause-turned g c =
    let kept = c.in_err-turn.ensures.keeps.run_is in
    let first = at c.args.plan.now c.args.arena.now c.args.run.now in
    let u = upon {e = parts_as g.R.ResolverSet c.args.root g.L.Plan g.H.Rounds g.P.Turns} first c.aim.new.self c.take_turn.new.run.turns.now c.pick_task-picked.result.place c.pick_task-picked.result.number c.index_mut.result.now
    c.context-context.result c.info-info.result c.aim.ensures.stays c.aim.ensures.keeps c.requires.sound c.pick_task-picked.ensures.stands c.index_mut.ensures.value
    c.context-context.ensures c.info-info.ensures c.pick_task-picked.ensures.choice
    (ap g.P.Turns.state c.in_err-turn.ensures.keeps.turns_is ∙ c.pick_task-picked.ensures.after) in
    advanced_err _ c.from_residual-in_err-turn.result c.from_residual-in_err-turn.ensures.1 (λ want none. record {
      steady = record {
        lent_is = kept.lent_is;
        rules_is = kept.set_is.rules_is;
        lawful_is = kept.set_is.lawful_is;
        paced_is = kept.set_is.paced_is;
        quiet_is = kept.quiet_is;
        counted = kept.counted;
      };
      ended = ended_trans u.kept u.aimed.passed (ended_before u.taken _ c.in_err-turn.ensures.entered.unentered (λ calm. c.in_err-turn.ensures.told calm) (λ calm. (c.in_err-turn.ensures.begun calm).unbegun));
      world = λ law. no_world_left (parts_as g.R.ResolverSet c.args.root g.L.Plan g.H.Rounds g.P.Turns) c.args.root _ _ want none (c.in_err-turn.ensures.world law);
    })

pub keep_given-requires-clause-number : goal.keep_given-requires-clause-number
keep_given-requires-clause-number g c =
    let first = at c.args.plan.now c.args.arena.now c.args.run.now in
    let inside = within {e = parts_as g.R.ResolverSet c.args.root g.L.Plan g.H.Rounds g.P.Turns} first c.pick_task-picked.result.place c.pick_task-picked.result.number c.requires.sound c.pick_task-picked.ensures.stands in
    subst (λ ts. c.pick_task-picked.result.number < length ts) (sym c.aim.ensures.stays) inside.1

pub keep_given-requires-clause-waits : goal.keep_given-requires-clause-waits
keep_given-requires-clause-waits g c =
    let first = at c.args.plan.now c.args.arena.now c.args.run.now in
    let u = upon {e = parts_as g.R.ResolverSet c.args.root g.L.Plan g.H.Rounds g.P.Turns} first c.aim.new.self c.pick_task-picked.new.turns c.pick_task-picked.result.place c.pick_task-picked.result.number c.index_mut.result.now
    c.context-context.result c.info-info.result c.aim.ensures.stays c.aim.ensures.keeps c.requires.sound c.pick_task-picked.ensures.stands c.index_mut.ensures.value
    c.context-context.ensures c.info-info.ensures c.pick_task-picked.ensures.choice c.pick_task-picked.ensures.after in
    still_waits g.row.R-Future.Denot c.args.arena.now.waiting c.args.arena.now.states.items c.pick_task-picked.result.number c.index_mut.result.now c.take_turn.new.state u.aimed.sound.waits u.taken.pick.old_is
    (open_undone g.R.ResolverSet.is_for (g.L.Plan.asks u.taken.pick.task).call c.index_mut.result.now u.taken.pick.open_is)

pub keep_given-requires-clause-stands : goal.keep_given-requires-clause-stands
keep_given-requires-clause-stands g c =
    c.pick_task-picked.ensures.stands

pub keep_given-requires-clause-within : goal.keep_given-requires-clause-within
keep_given-requires-clause-within g c =
    let first = at c.args.plan.now c.args.arena.now c.args.run.now in
    let inside = within {e = parts_as g.R.ResolverSet c.args.root g.L.Plan g.H.Rounds g.P.Turns} first c.pick_task-picked.result.place c.pick_task-picked.result.number c.requires.sound c.pick_task-picked.ensures.stands in
    let bound = inside.0 in
    let l = length_set c.args.arena.now.states.items c.pick_task-picked.result.number c.take_turn.new.state in
    omega arith

pub returns-in-Begun-clause-turned : goal.returns-in-Begun-clause-turned
returns-in-Begun-clause-turned g c =
    let kept = c.in_ok-turn.ensures.keeps.run_is in
    let first = at c.args.plan.now c.args.arena.now c.args.run.now in
    let u = upon {e = parts_as g.R.ResolverSet c.args.root g.L.Plan g.H.Rounds g.P.Turns} first c.aim.new.self c.take_turn.new.run.turns.now c.pick_task-picked.result.place c.pick_task-picked.result.number c.index_mut.result.now
    c.context-context.result c.info-info.result c.aim.ensures.stays c.aim.ensures.keeps c.requires.sound c.pick_task-picked.ensures.stands c.index_mut.ensures.value
    c.context-context.ensures c.info-info.ensures c.pick_task-picked.ensures.choice
    (ap g.P.Turns.state c.in_ok-turn.ensures.keeps.turns_is ∙ c.pick_task-picked.ensures.after) in
    let world : g.R.ResolverSet.is_lawful c.args.run.now.set.now → g.R.ResolverSet.world c.take_turn.new.run.set.now ≡ g.R.ResolverSet.world c.args.run.now.set.now
    = λ law. rw c.in-Begun.is at (c.in_ok-turn.ensures.world law) in
    record {
      kept = record {
        steady = record {
          lent_is = kept.lent_is;
          rules_is = kept.set_is.rules_is;
          lawful_is = kept.set_is.lawful_is;
          paced_is = kept.set_is.paced_is;
          quiet_is = kept.quiet_is;
          counted = kept.counted;
        };
        world_is = world;
      };
      went = went_trans u.kept u.aimed (went_begun u.taken c.take_turn.new.run.set.now c.take_turn.new.run.hooks.now c.take_turn.new.run.steps.now (lent_to c.take_turn.new.run) c.take_turn.new.state
          (record { told_is = c.in_ok-turn.ensures.entered.entered; stepped = λ calm. (c.in_ok-turn.ensures.begun calm).stepped }) (rw c.in-Begun.is at c.in_ok-turn.ensures.promise)
          (λ pace calm. rw c.in-Begun.is at (c.in_ok-turn.ensures.paced calm pace)) (λ calm. rw c.in-Begun.is at (c.in_ok-turn.ensures.told calm)) (λ calm. (c.in_ok-turn.ensures.begun calm).begun));
      waits = refl;
    }

pub returns-in-Begun-clause-nearer : goal.returns-in-Begun-clause-nearer
returns-in-Begun-clause-nearer g c =
    let first = at c.args.plan.now c.args.arena.now c.args.run.now in
    let u = upon {e = parts_as g.R.ResolverSet c.args.root g.L.Plan g.H.Rounds g.P.Turns} first c.aim.new.self c.pick_task-picked.new.turns c.pick_task-picked.result.place c.pick_task-picked.result.number c.index_mut.result.now
    c.context-context.result c.info-info.result c.aim.ensures.stays c.aim.ensures.keeps c.requires.sound c.pick_task-picked.ensures.stands c.index_mut.ensures.value
    c.context-context.ensures c.info-info.ensures c.pick_task-picked.ensures.choice c.pick_task-picked.ensures.after in
    nearer_begun g.row.R-Future.Denot (Call g.row.R-Own.Denot) g.R.ResolverSet.is_for (call_of c.context-context.result) g.R.ResolverSet.number c.args.arena.now.states.items c.pick_task-picked.result.number c.index_mut.result.now c.take_turn.new.state u.taken.pick.old_is
    (rw c.in-Begun.is at c.in_ok-turn.ensures.promise)

pub returns-in-Pending-clause-turned : goal.returns-in-Pending-clause-turned
returns-in-Pending-clause-turned g c =
    let kept = c.in_ok-turn.ensures.keeps.run_is in
    let first = at c.args.plan.now c.args.arena.now c.args.run.now in
    let u = upon {e = parts_as g.R.ResolverSet c.args.root g.L.Plan g.H.Rounds g.P.Turns} first c.aim.new.self c.take_turn.new.run.turns.now c.pick_task-picked.result.place c.pick_task-picked.result.number c.index_mut.result.now
    c.context-context.result c.info-info.result c.aim.ensures.stays c.aim.ensures.keeps c.requires.sound c.pick_task-picked.ensures.stands c.index_mut.ensures.value
    c.context-context.ensures c.info-info.ensures c.pick_task-picked.ensures.choice
    (ap g.P.Turns.state c.in_ok-turn.ensures.keeps.turns_is ∙ c.pick_task-picked.ensures.after) in
    let world : g.R.ResolverSet.is_lawful c.args.run.now.set.now → g.R.ResolverSet.world c.take_turn.new.run.set.now ≡ g.R.ResolverSet.world c.args.run.now.set.now
    = λ law. rw c.in-Pending.is at (c.in_ok-turn.ensures.world law) in
    record {
      kept = record {
        steady = record {
          lent_is = kept.lent_is;
          rules_is = kept.set_is.rules_is;
          lawful_is = kept.set_is.lawful_is;
          paced_is = kept.set_is.paced_is;
          quiet_is = kept.quiet_is;
          counted = kept.counted;
        };
        world_is = world;
      };
      went = went_trans u.kept u.aimed (went_pending u.taken c.take_turn.new.run.set.now c.take_turn.new.run.hooks.now c.take_turn.new.run.steps.now (lent_to c.take_turn.new.run) c.take_turn.new.state
          (record { told_is = c.in_ok-turn.ensures.entered.entered; stepped = λ calm. (c.in_ok-turn.ensures.begun calm).stepped }) (rw c.in-Pending.is at c.in_ok-turn.ensures.promise)
          (λ pace calm. rw c.in-Pending.is at (c.in_ok-turn.ensures.paced calm pace)) (λ calm. rw c.in-Pending.is at (c.in_ok-turn.ensures.told calm)) (λ calm. (c.in_ok-turn.ensures.begun calm).begun));
      waits = refl;
    }

pub returns-in-Pending-clause-nearer : goal.returns-in-Pending-clause-nearer
returns-in-Pending-clause-nearer g c =
    let first = at c.args.plan.now c.args.arena.now c.args.run.now in
    let u = upon {e = parts_as g.R.ResolverSet c.args.root g.L.Plan g.H.Rounds g.P.Turns} first c.aim.new.self c.pick_task-picked.new.turns c.pick_task-picked.result.place c.pick_task-picked.result.number c.index_mut.result.now
    c.context-context.result c.info-info.result c.aim.ensures.stays c.aim.ensures.keeps c.requires.sound c.pick_task-picked.ensures.stands c.index_mut.ensures.value
    c.context-context.ensures c.info-info.ensures c.pick_task-picked.ensures.choice c.pick_task-picked.ensures.after in
    nearer_pending g.row.R-Future.Denot (Call g.row.R-Own.Denot) g.R.ResolverSet.is_for (call_of c.context-context.result) g.R.ResolverSet.number c.args.arena.now.states.items c.pick_task-picked.result.number c.index_mut.result.now c.take_turn.new.state u.taken.pick.old_is
    (rw c.in-Pending.is at c.in_ok-turn.ensures.promise)

pub returns-in-Ok-clause-turned : goal.returns-in-Ok-clause-turned
returns-in-Ok-clause-turned g c =
    let kept = c.in_ok-turn.ensures.keeps.run_is in
    let first = at c.args.plan.now c.args.arena.now c.args.run.now in
    let u = upon {e = parts_as g.R.ResolverSet c.args.root g.L.Plan g.H.Rounds g.P.Turns} first c.aim.new.self c.take_turn.new.run.turns.now c.pick_task-picked.result.place c.pick_task-picked.result.number c.index_mut.result.now
    c.context-context.result c.info-info.result c.aim.ensures.stays c.aim.ensures.keeps c.requires.sound c.pick_task-picked.ensures.stands c.index_mut.ensures.value
    c.context-context.ensures c.info-info.ensures c.pick_task-picked.ensures.choice
    (ap g.P.Turns.state c.in_ok-turn.ensures.keeps.turns_is ∙ c.pick_task-picked.ensures.after) in
    let made = completed_with u.taken c.keep_given.new.plan c.in-Answered.given (λ task is. c.in-Ok.ensures.tasks task is) c.in-Ok.ensures.holds c.in-Ok.ensures.keeps in
    let states = c.in-Ok.ensures.states u.taken.pick.task u.taken.pick.task_is in
    let new = at c.keep_given.new.plan c.keep_given.new.arena c.take_turn.new.run in
    record {
      steady = record {
        lent_is = kept.lent_is;
        rules_is = kept.set_is.rules_is;
        lawful_is = kept.set_is.lawful_is;
        paced_is = kept.set_is.paced_is;
        quiet_is = kept.quiet_is;
        counted = kept.counted;
      };
      sound = sound_after u.taken c.requires.alone new c.take_turn.new.state c.in-Answered.given _ made g.met.L.Plan.never_roots states c.in-Ok.ensures.waits;
      passed = passed_trans u.kept u.aimed.passed (passed_answered u.taken new (record { told_is = c.in_ok-turn.ensures.entered.entered; stepped = λ calm. (c.in_ok-turn.ensures.begun calm).stepped })
          c.take_turn.new.state c.in-Answered.given _ made states refl
          (λ law calm. rw c.in-Answered.is at (c.in_ok-turn.ensures.answer law calm))
          (λ pace calm. rw c.in-Answered.is at (c.in_ok-turn.ensures.paced calm pace))
          (λ calm. rw c.in-Answered.is at (c.in_ok-turn.ensures.told calm)) (λ calm. (c.in_ok-turn.ensures.begun calm).begun));
      world = λ law. world_after u c.args.root law new c.pick_task-picked.result.place c.pick_task-picked.ensures.stands c.in-Answered.given
          (λ calm. rw c.in-Answered.is at (c.in_ok-turn.ensures.answer law calm)) (rw c.in-Answered.is at (c.in_ok-turn.ensures.world law));
    }

pub returns-in-Ok-clause-nearer : goal.returns-in-Ok-clause-nearer
returns-in-Ok-clause-nearer g c =
    let first = at c.args.plan.now c.args.arena.now c.args.run.now in
    let u = upon {e = parts_as g.R.ResolverSet c.args.root g.L.Plan g.H.Rounds g.P.Turns} first c.aim.new.self c.pick_task-picked.new.turns c.pick_task-picked.result.place c.pick_task-picked.result.number c.index_mut.result.now
    c.context-context.result c.info-info.result c.aim.ensures.stays c.aim.ensures.keeps c.requires.sound c.pick_task-picked.ensures.stands c.index_mut.ensures.value
    c.context-context.ensures c.info-info.ensures c.pick_task-picked.ensures.choice c.pick_task-picked.ensures.after in
    let states = c.in-Ok.ensures.states u.taken.pick.task u.taken.pick.task_is in
    let ok = c.keep_given.new.arena.states.ok in
    let small = c.keep_given.new.arena.states.small in
    nearer_answered u.taken c.keep_given.new.arena.states.items c.take_turn.new.state _ states (omega arith)

pub returns-in-Err-clause-turned : goal.returns-in-Err-clause-turned
returns-in-Err-clause-turned g c =
    let kept = c.in_ok-turn.ensures.keeps.run_is in
    let first = at c.args.plan.now c.args.arena.now c.args.run.now in
    let u = upon {e = parts_as g.R.ResolverSet c.args.root g.L.Plan g.H.Rounds g.P.Turns} first c.aim.new.self c.take_turn.new.run.turns.now c.pick_task-picked.result.place c.pick_task-picked.result.number c.index_mut.result.now
    c.context-context.result c.info-info.result c.aim.ensures.stays c.aim.ensures.keeps c.requires.sound c.pick_task-picked.ensures.stands c.index_mut.ensures.value
    c.context-context.ensures c.info-info.ensures c.pick_task-picked.ensures.choice
    (ap g.P.Turns.state c.in_ok-turn.ensures.keeps.turns_is ∙ c.pick_task-picked.ensures.after) in
    let new = at c.keep_given.new.plan c.keep_given.new.arena c.take_turn.new.run in
    record {
      steady = record {
        lent_is = kept.lent_is;
        rules_is = kept.set_is.rules_is;
        lawful_is = kept.set_is.lawful_is;
        paced_is = kept.set_is.paced_is;
        quiet_is = kept.quiet_is;
        counted = kept.counted;
      };
      ended = ended_trans u.kept u.aimed.passed (ended_after u.taken _ c.in_ok-turn.ensures.entered.entered
          (λ pace calm. rw c.in-Answered.is at (c.in_ok-turn.ensures.paced calm pace)) (λ calm. rw c.in-Answered.is at (c.in_ok-turn.ensures.told calm)) (λ calm. (c.in_ok-turn.ensures.begun calm).begun));
      world = λ law. world_left u c.args.root law new c.pick_task-picked.result.place c.pick_task-picked.ensures.stands c.roots_of-roots.result c.in-Answered.given c.roots_of-roots.ensures
          (rw c.in-Answered.is at (c.in_ok-turn.ensures.world law));
    }
