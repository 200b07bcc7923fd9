use Rattle.std.proofs.Common.{refl, ℕ, List, ◌≡◌, ◌<◌, ◌∙◌, sym, subst, length}
use Rattle.std.specs.Prelude.{true, false}
use Rattle.gql_tasks.specs.Arena.{events_left}
use Rattle.gql_tasks.specs.Parts.{parts, at}
use Rattle.gql_tasks.proofs.ProgressLemmas.{kept_none, kept_trans, went_none, went_trans, ended_trans}
use Rattle.gql_tasks.proofs.RootLemmas.{other_answered, other_ended}
use Rattle.gql_tasks.proofs.scheduler.reach_event.Goals as goal

more_than_none : (new old : List ℕ) → new ≡ old → 0 < length old → 0 < length new
more_than_none new old same some = subst (λ ns. 0 < length ns) (sym same) some

pub polls-init : goal.polls-init
polls-init g c =
    let e = parts g.R.ResolverSet g.L.Plan g.H.Rounds g.P.Turns in
    let first = at c.args.plan.now c.args.arena.now c.args.run.now in
    record {
      some = c.requires.some;
      events = refl;
      kept = kept_none {e = e} first;
      went = went_none {m = first} c.requires.sound;
    }

pub advance-requires-clause-sound : goal.advance-requires-clause-sound
advance-requires-clause-sound g c = c.polls.invariant.went.sound

pub advance-requires-clause-some : goal.advance-requires-clause-some
advance-requires-clause-some g c = c.polls.invariant.some

pub advance-requires-clause-alone : goal.advance-requires-clause-alone
advance-requires-clause-alone g c = λ root. absurd (cc)

pub returns-in-Begun-clause-stretch : goal.returns-in-Begun-clause-stretch
returns-in-Begun-clause-stretch g c =
    let later = rw c.in-Begun.is at c.in-Ok.ensures.turned in
    record {
      kept = kept_trans c.polls.invariant.kept later.kept;
      went = went_trans c.polls.invariant.kept c.polls.invariant.went later.went;
      ended = tt;
    }

pub returns-in-Begun-clause-nearer : goal.returns-in-Begun-clause-nearer
returns-in-Begun-clause-nearer g c =
    subst (λ n. events_left c.advance.new.arena.states.items < n) c.polls.invariant.events (rw c.in-Begun.is at c.in-Ok.ensures.nearer)

pub returns-in-Answered-clause-stretch : goal.returns-in-Answered-clause-stretch
returns-in-Answered-clause-stretch g c =
    let later = rw c.in-Answered.is at c.in-Ok.ensures.turned in
    let kept = other_answered refl later in
    record {
      kept = kept_trans c.polls.invariant.kept kept;
      went = went_trans c.polls.invariant.kept c.polls.invariant.went (record { sound = later.sound; passed = later.passed });
      ended = tt;
    }

pub returns-in-Answered-clause-nearer : goal.returns-in-Answered-clause-nearer
returns-in-Answered-clause-nearer g c =
    subst (λ n. events_left c.advance.new.arena.states.items < n) c.polls.invariant.events (rw c.in-Answered.is at c.in-Ok.ensures.nearer)

pub returns-in-Err-clause-stretch : goal.returns-in-Err-clause-stretch
returns-in-Err-clause-stretch g c = record {
  kept = kept_trans c.polls.invariant.kept (other_ended refl c.in-Err.ensures.turned);
  went = tt;
  ended = ended_trans c.polls.invariant.kept c.polls.invariant.went.passed c.in-Err.ensures.turned.ended;
}

pub polls-preserved : goal.polls-preserved
polls-preserved g c =
    let nearer = rw c.in-Pending.is at c.in-Ok.ensures.nearer in
    let later = rw c.in-Pending.is at c.in-Ok.ensures.turned in
    record {
      some = more_than_none _ _ later.waits c.polls.invariant.some;
      events = nearer.0 ∙ c.polls.invariant.events;
      kept = kept_trans c.polls.invariant.kept later.kept;
      went = went_trans c.polls.invariant.kept c.polls.invariant.went later.went;
    }
