-- The phase of a root of a mutation: stretches one after another, and the turn that answers it.
use Rattle.std.proofs.Common.{ℕ, zero, suc, ◌≡◌, Bool, true, false, List, [], ◌∷◌, ◌++◌, length, refl, sym, ap, subst, ◌∙◌, arith, inl, inr}
use Rattle.std.specs.Prelude.{Some, ◌⊎◌, Result, Ok, Err, IfErr, IsErrAnd, slice_get, slice_set}
use Rattle.std.specs.declared.alloc.AllocError.{AllocError}
use Rattle.gql_base.specs.declared.no_memory.NoMemory.{NoMemory}
use Rattle.gql_resolve.specs.Call.{Call, call_of}
use Rattle.gql_resolve.specs.declared.answer.Answer.{Answer}
use Rattle.gql_request.specs.declared.resolve_info.ResolveInfo.{ResolveInfo}
use Rattle.gql_resolve.specs.declared.resolver_context.ResolverContext.{ResolverContext}
use Rattle.gql_tasks.specs.declared.arena.State.{State}
use Rattle.gql_tasks.specs.declared.arena.State.TheVariants as state
use Rattle.gql_tasks.specs.declared.given.Given.{Given}
use Rattle.gql_tasks.specs.declared.given.Given.TheVariants.{Answered, Put}
use Rattle.gql_tasks.specs.Arena.{Fits, mark_of, marks_of, fresh_states}
use Rattle.gql_tasks.specs.Given.{beneath_given}
use Rattle.gql_tasks.specs.Parts.{Parts, Moment, due_by, subject}
use Rattle.gql_tasks.specs.Progress.{IsSound, Kept}
use Rattle.gql_tasks.specs.Record.{Mark, untold, begun, ready, waiting_from}
use Rattle.gql_tasks.specs.declared.arena.Turn.TheVariants as turn
use Rattle.gql_tasks.specs.Advance.{Advanced, TurnAnswered, TurnEnded, WorldAfter, WorldLeft, roots_turned}
use Rattle.gql_tasks.specs.Root.{effect_by, world_turned, without_root, LeavesEffect, RootAnswered, RootEnded, StillWaits, RootReached}
use Rattle.gql_tasks.proofs.AdvanceLemmas.{Taken, Completed, NeverRoots, stands, sound_of, undone, settled_states, no_roots}
use Rattle.gql_lists.proofs.SliceLemmas.{get_map}
use Rattle.gql_tasks.proofs.ProgressLemmas.{kept_none, kept_trans, steady_trans, went_none, went_trans, passed_trans, ended_trans}
use Rattle.gql_tasks.specs.declared.scheduler.Reached.{Reached}
use Rattle.gql_tasks.proofs.AimLemmas.{with_plan}
use Rattle.gql_tasks.proofs.UponLemmas.{Upon}
use Rattle.gql_tasks.proofs.RootWorld.{other_given}
use Rattle.gql_tasks.proofs.SoundLemmas.{Stands, sound_settled}

-- where one task alone waits, all others have their answers
none_open : (first : ℕ) (marks : List Mark) (k : ℕ) (m : Mark) → length (waiting_from first marks) ≡ 0 → slice_get marks k ≡ Some m → ready ≡ m
none_open first [] k m none is = absurd (cc)
none_open first (untold ∷ marks) k m none is = absurd (omega (arith, none))
none_open first (begun ∷ marks) k m none is = absurd (omega (arith, none))
none_open first (ready ∷ marks) zero m none is = cc
none_open first (ready ∷ marks) (suc k) m none is = none_open (suc first) marks k m none is

-- of two open tasks, one isn't alone
alone : (first : ℕ) (marks : List Mark) (number k : ℕ) (m other : Mark) → length (waiting_from first marks) ≡ 1
    → slice_get marks number ≡ Some m → (ready ≡ m → ⊥) → slice_get marks k ≡ Some other → (k ≡ number → ⊥) → ready ≡ other
alone first [] number k m other one is open_ at differs = absurd (cc)
alone first (untold ∷ marks) zero zero m other one is open_ at differs = absurd (differs refl)
alone first (untold ∷ marks) zero (suc k) m other one is open_ at differs = none_open (suc first) marks k other (omega (arith, one)) at
alone first (untold ∷ marks) (suc number) k m other one is open_ at differs =
    absurd (open_ (none_open (suc first) marks number m (omega (arith, one)) is))
alone first (begun ∷ marks) zero zero m other one is open_ at differs = absurd (differs refl)
alone first (begun ∷ marks) zero (suc k) m other one is open_ at differs = none_open (suc first) marks k other (omega (arith, one)) at
alone first (begun ∷ marks) (suc number) k m other one is open_ at differs =
    absurd (open_ (none_open (suc first) marks number m (omega (arith, one)) is))
alone first (ready ∷ marks) zero k m other one is open_ at differs = absurd (open_ (cc))
alone first (ready ∷ marks) (suc number) zero m other one is open_ at differs = cc
alone first (ready ∷ marks) (suc number) (suc k) m other one is open_ at differs =
    alone (suc first) marks number k m other one is open_ at (λ same. differs (ap suc same))

done_mark : {F : Type 0} (s : State F) → ready ≡ mark_of s → state.Done ≡ s
done_mark state.Fresh is = cc
done_mark (state.Waiting f) is = cc
done_mark state.Done is = refl

module _ {R Own World Future L H P : Type 0} {e : Parts R Own World Future L H P} where
  pub still_none : (m : Moment R Future L H P) → IsSound e m → StillWaits e m m
  still_none m sound = record { kept = kept_none m; went = went_none {m = m} sound; waits = refl }

  pub still_trans : {old middle new : Moment R Future L H P} → StillWaits e old middle → StillWaits e middle new → StillWaits e old new
  still_trans one other = record {
    kept = kept_trans one.kept other.kept;
    went = went_trans one.kept one.went other.went;
    waits = other.waits ∙ one.waits;
  }

  effect_on : (old middle new : Moment R Future L H P) → StillWaits e old middle → e.set.is_lawful old.set → LeavesEffect e middle new → LeavesEffect e old new
  effect_on old middle new one law leaves = λ number task waits there.
      leaves number task (one.waits ∙ waits) (one.went.passed.enters.stays number task there)
      ∙ ap (λ w. effect_by e.set middle.set (e.plan.asks task).call w) (one.kept.world_is law)
      ∙ ap (λ r. e.set.effect r (e.plan.asks task).call (e.set.world old.set)) one.kept.steady.rules_is

  pub answered_on : {old middle new : Moment R Future L H P} → StillWaits e old middle → RootAnswered e middle new → RootAnswered e old new
  answered_on {old = old} {middle = middle} {new = new} one other = record {
    steady = steady_trans one.kept.steady other.steady;
    sound = other.sound;
    passed = passed_trans one.kept one.went.passed other.passed;
    world = λ law calm. effect_on old middle new one law (other.world (one.kept.steady.lawful_is law) (one.kept.steady.quiet_is calm));
  }

  pub root_ended_on : {old middle new : Moment R Future L H P} (want : NoMemory) → StillWaits e old middle → RootEnded e middle new want → RootEnded e old new want
  root_ended_on {old = old} {middle = middle} {new = new} want one other = record {
    steady = steady_trans one.kept.steady other.steady;
    ended = ended_trans one.kept one.went.passed other.ended;
    world = λ law. elim (other.world (one.kept.steady.lawful_is law)) [
      | inl none ↦ inl (none.0, none.1 ∙ one.kept.world_is law)
      | inr some ↦ inr (some.0, effect_on old middle new one law some.1)
    ];
  }

  module _ {old : Moment R Future L H P} {turns : P} {number : ℕ} {was : State Future} {context : ResolverContext Own} {info : ResolveInfo} (t : Taken e old turns number was context info) where
    -- where the root waits alone, all others have their answers
    others_done : length old.waiting ≡ 1 → (n : ℕ) (s : State Future) → (n ≡ number → ⊥) → slice_get old.states n ≡ Some s → state.Done ≡ s
    others_done one n s differs is = done_mark s (alone 0 (marks_of old.states) number n (mark_of was) (mark_of s)
        (sym (ap length t.sound.waits) ∙ one) (get_map mark_of old.states number was t.pick.old_is) (λ done. undone t (sym (done_mark was done)))
        (get_map mark_of old.states n s is) differs)

    fits_after : (root : Bool) → e.root ≡ root → (e.root ≡ true → length old.waiting ≡ 1) → (held : Given Own → Type 0) (call : Call Own) (n : ℕ) (s : State Future)
        → (n ≡ number → ⊥) → slice_get old.states n ≡ Some s → Fits e.root e.set.is_for held call s → Fits false e.set.is_for held call s
    fits_after true is one held call n s differs at =
        subst (λ u. Fits e.root e.set.is_for held call u → Fits false e.set.is_for held call u) (others_done (one is) n s differs at) (λ fits. fits)
    fits_after false is one held call n s differs at = subst (λ b. Fits b e.set.is_for held call s) is

    -- so that no open task is a root once it is answered
    pub sound_after : (e.root ≡ true → length old.waiting ≡ 1) → (new : Moment R Future L H P) (now : State Future) (given : Given Own) (count : ℕ) → Completed t new.plan given count → NeverRoots t
        → new.states ≡ slice_set (slice_set old.states number now) number state.Done ++ fresh_states count
        → new.waiting ≡ waiting_from 0 (marks_of new.states)
        → IsSound (without_root e) new
    sound_after one new now given count made never states_is waits =
        let more = beneath_given e.plan.beneath t.pick.task given in
        let form = settled_states t new.states now count more made.count_is states_is in
        sound_of {e = without_root e} new
        (subst (λ ts. Stands false e.set.is_for (subject e) (e.plan.holds new.plan) ts new.states new.waiting) (sym made.made)
        (subst (λ ss. Stands false e.set.is_for (subject e) (e.plan.holds new.plan) (e.plan.tasks old.plan ++ more) ss new.waiting) form
        (sound_settled Own e.plan.Task Future e.root e.set.is_for (subject e) false (e.plan.holds old.plan) (e.plan.holds new.plan) (e.plan.tasks old.plan) more old.states old.waiting new.waiting number given
        (stands t.sound) made.keeps made.holding (no_roots t never given)
        (λ n task s differs is. fits_after e.root refl one (e.plan.holds new.plan n) (e.plan.asks task).call n s differs is)
        (waits ∙ ap (λ ss. waiting_from 0 (marks_of ss)) (sym form)))))

    only : (n place : ℕ) → slice_get (n ∷ []) place ≡ Some number → n ≡ number
    only n zero is = cc
    only n (suc place) is = absurd (cc)

    -- the effect of the call of the context is that of the root
    pub turn_effect : (new : Moment R Future L H P) (place : ℕ) → slice_get old.waiting place ≡ Some number
        → e.set.world new.set ≡ effect_by e.set old.set (call_of context) (e.set.world old.set) → LeavesEffect e old new
    turn_effect new place stood world_is = λ n task waits there.
        let same : n ≡ number = only n place (subst (λ ns. slice_get ns place ≡ Some number) waits stood) in
        let found : slice_get (e.plan.tasks old.plan) number ≡ Some task = subst (λ k. slice_get (e.plan.tasks old.plan) k ≡ Some task) same there in
        let task_is = t.pick.task_is in
        let one : t.pick.task ≡ task = cc in
        world_is ∙ ap (λ c. effect_by e.set old.set c (e.set.world old.set)) (t.context_is.call_is ∙ ap (λ (u : e.plan.Task). (e.plan.asks u).call) one)

-- the world after the answer of a root
answered_world : {V W : Type 0} (E : Type 0) (effect : W → W) (world new : W) (due : Answer V) (given : Given V) → given ≡ Answered due
    → new ≡ world_turned {E = E} true effect world (Ok (turn.Answered given)) → new ≡ effect world
answered_world {V = V} E effect world new due given is turned =
    subst (λ (g : Given V). new ≡ world_turned {E = E} true effect world (Ok (turn.Answered g))) is turned

module _ {R Own World Future L H P : Type 0} (e : Parts R Own World Future L H P) where
  -- memory ran out before anything was given
  pub no_world_left : (root : Bool) (old new : Moment R Future L H P) (want : NoMemory) → want.roots ≡ 0 → e.set.world new.set ≡ e.set.world old.set → WorldLeft e root old new want
  no_world_left true old new want none same = inl (none, same)
  no_world_left false old new want none same = (none, same)

module _ {R Own World Future L H P : Type 0} {e : Parts R Own World Future L H P} where
  -- a plan that was aimed at a task
  still_aimed : {first : Moment R Future L H P} {plan : L} {turns : P} {number : ℕ} {was : State Future} {context : ResolverContext Own} {info : ResolveInfo}
      → Upon e first plan turns number was context info → StillWaits e first (with_plan first plan)
  still_aimed u = record { kept = u.kept; went = u.aimed; waits = refl }

  module _ {first : Moment R Future L H P} {plan : L} {turns : P} {number : ℕ} {was : State Future} {context : ResolverContext Own} {info : ResolveInfo} (u : Upon e first plan turns number was context info) where
    effect_first : e.set.is_lawful first.set → (new : Moment R Future L H P) (place : ℕ) → slice_get first.waiting place ≡ Some number
        → e.set.world new.set ≡ effect_by e.set first.set (call_of context) (e.set.world first.set) → LeavesEffect e first new
    effect_first law new place stood world_is =
        effect_on first (with_plan first plan) new (still_aimed u) law (turn_effect u.taken new place stood world_is)

    -- the world after an answer: that of a root leaves its effect
    pub world_after : (root : Bool) → e.set.is_lawful first.set → (new : Moment R Future L H P) (place : ℕ) → slice_get first.waiting place ≡ Some number → (given : Given Own)
        → (e.hooks.are_quiet first.hooks → given ≡ Answered (due_by e.set first.set (call_of context)))
        → e.set.world new.set ≡ world_turned {E = AllocError} root (effect_by e.set first.set (call_of context)) (e.set.world first.set) (Ok (turn.Answered given))
        → WorldAfter e root first new
    world_after true law new place stood given is turned = λ calm. effect_first law new place stood
        (answered_world AllocError (effect_by e.set first.set (call_of context)) (e.set.world first.set) (e.set.world new.set) (due_by e.set first.set (call_of context)) given (is calm) turned)
    world_after false law new place stood given is turned =
        other_given (effect_by e.set first.set (call_of context)) (e.set.world first.set) (e.set.world new.set) given turned

    -- the same where it couldn't be kept, and it isn't known what was given
    pub world_left : (root : Bool) → e.set.is_lawful first.set → (new : Moment R Future L H P) (place : ℕ) → slice_get first.waiting place ≡ Some number → (roots : ℕ) (given : Given Own)
        → roots ≡ roots_turned root given
        → e.set.world new.set ≡ world_turned {E = AllocError} root (effect_by e.set first.set (call_of context)) (e.set.world first.set) (Ok (turn.Answered given))
        → WorldLeft e root first new (record { roots = roots })
    world_left true law new place stood roots (Answered answer) is turned = inr (is, effect_first law new place stood turned)
    world_left true law new place stood roots (Put put) is turned = inl (is, turned)
    world_left false law new place stood roots (Answered answer) is turned = (is, turned)
    world_left false law new place stood roots (Put put) is turned = (is, turned)

  -- a turn of a root
  pub root_answered : {old new : Moment R Future L H P} → e.root ≡ true → TurnAnswered e old new → RootAnswered e old new
  root_answered {old = old} {new = new} is one = record {
    steady = one.steady;
    sound = one.sound;
    passed = one.passed;
    world = λ law. subst (λ b. WorldAfter e b old new) is (one.world law);
  }

  pub root_ended : {old new : Moment R Future L H P} {want : NoMemory} → e.root ≡ true → TurnEnded e old new want → RootEnded e old new want
  root_ended {old = old} {new = new} {want = want} is one = record {
    steady = one.steady;
    ended = one.ended;
    world = λ law. subst (λ b. WorldLeft e b old new want) is (one.world law);
  }

  -- a turn of another task
  pub other_answered : {old new : Moment R Future L H P} → e.root ≡ false → TurnAnswered e old new → Kept e old new
  other_answered {old = old} {new = new} is one = record { steady = one.steady; world_is = λ law. subst (λ b. WorldAfter e b old new) is (one.world law) }

  pub other_ended : {old new : Moment R Future L H P} {want : NoMemory} → e.root ≡ false → TurnEnded e old new want → Kept e old new
  other_ended {old = old} {new = new} {want = want} is one = record {
    steady = one.steady;
    world_is = λ law. (subst (λ b. WorldLeft e b old new want) is (one.world law)).1;
  }

  -- a turn, or turns, that ended out of memory
  pub advanced_err : (Q : NoMemory → Type 0) {old new : Moment R Future L H P} (result : Result Reached NoMemory) → IsErrAnd result Q
      → ((want : NoMemory) → Q want → TurnEnded e old new want) → Advanced e old new result
  advanced_err Q (Ok x) is ended = absurd is
  advanced_err Q (Err want) is ended = ended want is

  pub reached_err : (Q : NoMemory → Type 0) {old new : Moment R Future L H P} (result : Result Bool NoMemory) → IsErrAnd result Q
      → ((want : NoMemory) → Q want → RootEnded e old new want) → RootReached e old new result
  reached_err Q (Ok x) is ended = absurd is
  reached_err Q (Err want) is ended = ended want is

pub if_err : {T : Type 0} (Q P : NoMemory → Type 0) (result : Result T NoMemory) → IsErrAnd result Q → ((want : NoMemory) → Q want → P want) → IfErr result P
if_err Q P (Ok x) is ended = tt
if_err Q P (Err want) is ended = ended want is
