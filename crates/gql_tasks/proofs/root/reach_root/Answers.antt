use Rattle.std.proofs.Common.{ap, sym, subst, ◌∙◌, ◌<◌, refl, length, arith}
use Rattle.gql_tasks.specs.Arena.{events_left}
use Rattle.gql_tasks.specs.Parts.{root_parts, at}
use Rattle.gql_tasks.specs.Advance.{TurnEnded}
use Rattle.gql_tasks.proofs.RootLemmas.{still_none, still_trans, answered_on, root_answered, root_ended, root_ended_on, reached_err}
use Rattle.gql_tasks.proofs.root.reach_root.Goals as goal

pub polls-init : goal.polls-init
polls-init g c =
    let first = at c.args.plan.now c.args.arena.now c.args.run.now in
    record { events = refl; waits = still_none {e = root_parts g.R.ResolverSet g.L.Plan g.H.Rounds g.P.Turns} first c.requires.sound }

pub advance-requires-clause-sound : goal.advance-requires-clause-sound
advance-requires-clause-sound g c = c.polls.invariant.waits.went.sound

pub advance-requires-clause-some : goal.advance-requires-clause-some
advance-requires-clause-some g c = let one = ap length c.polls.invariant.waits.waits ∙ c.requires.alone in omega arith

pub advance-requires-clause-alone : goal.advance-requires-clause-alone
advance-requires-clause-alone g c = λ root. ap length c.polls.invariant.waits.waits ∙ c.requires.alone

pub returns-in_err-advance-clause-reached : goal.returns-in_err-advance-clause-reached
returns-in_err-advance-clause-reached g c =
    let e = root_parts g.R.ResolverSet g.L.Plan g.H.Rounds g.P.Turns in
    let middle = at c.polls.plan c.polls.arena c.polls.run in
    let new = at c.advance.new.plan c.advance.new.arena
    c.advance.new.run in
    reached_err _ c.from_residual.result c.from_residual.ensures.1
    (λ want is. root_ended_on want c.polls.invariant.waits (root_ended refl (subst (λ w. TurnEnded e middle new w) (sym is) c.in_err-advance.ensures.turned)))

pub returns-in-Begun-clause-reached : goal.returns-in-Begun-clause-reached
returns-in-Begun-clause-reached g c = still_trans c.polls.invariant.waits (rw c.in-Begun.is at c.in_ok-advance.ensures.turned)

pub returns-in-Begun-clause-nearer : goal.returns-in-Begun-clause-nearer
returns-in-Begun-clause-nearer g c = λ begun.
    subst (λ n. events_left c.advance.new.arena.states.items < n) c.polls.invariant.events (rw c.in-Begun.is at c.in_ok-advance.ensures.nearer)

pub returns-in-Answered-clause-reached : goal.returns-in-Answered-clause-reached
returns-in-Answered-clause-reached g c = answered_on c.polls.invariant.waits (root_answered refl (rw c.in-Answered.is at c.in_ok-advance.ensures.turned))

pub polls-preserved : goal.polls-preserved
polls-preserved g c =
    let nearer = rw c.in-Pending.is at c.in_ok-advance.ensures.nearer in
    record {
      events = nearer.0 ∙ c.polls.invariant.events;
      waits = still_trans c.polls.invariant.waits (rw c.in-Pending.is at c.in_ok-advance.ensures.turned);
    }
