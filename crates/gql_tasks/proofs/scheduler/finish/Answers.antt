use Rattle.std.proofs.Common.{◌≡◌, ◌∙◌, ℕ, List, [], Bool, true, false, refl, sym}
use Rattle.std.specs.Prelude.{IsTrue, ◌↔◌}
use Rattle.gql_tasks.specs.Parts.{parts, at}
use Rattle.gql_tasks.proofs.ProgressLemmas.{kept_none, kept_trans, went_none, went_trans, ended_trans}
use Rattle.gql_tasks.proofs.UponLemmas.{stretch_err}
use Rattle.gql_tasks.proofs.scheduler.finish.Goals as goal

-- where the test says that some wait, there are some
some_wait : (none : Bool) (waiting : List ℕ) → IsTrue none ↔ (waiting ≡ []) → none ≡ false → waiting ≡ [] → ⊥
some_wait none waiting exact some is = (let bad : true ≡ false = sym (exact.1 is) ∙ some in cc)

pub events-init : goal.events-init
events-init g c =
    let e = parts g.R.ResolverSet g.L.Plan g.H.Rounds g.P.Turns in
    let first = at c.args.plan.now c.args.arena.now c.args.run.now in
    record { kept = kept_none {e = e} first; went = went_none {m = first} c.requires.sound; idle = λ none. (none, refl) }

pub reach_event-requires-clause-sound : goal.reach_event-requires-clause-sound
reach_event-requires-clause-sound g c = c.events.invariant.went.sound

pub returns-in_err-reach_event-clause-stretch : goal.returns-in_err-reach_event-clause-stretch
returns-in_err-reach_event-clause-stretch g c =
    let later = c.in_err-reach_event.ensures.stretch in
    stretch_err _ c.from_residual.result c.from_residual.ensures.1 (kept_trans c.events.invariant.kept later.kept)
    (ended_trans c.events.invariant.kept c.events.invariant.went.passed later.ended)

pub events-preserved : goal.events-preserved
events-preserved g c =
    let later = c.in_ok-reach_event.ensures.stretch in
    record {
      kept = kept_trans c.events.invariant.kept later.kept;
      went = went_trans c.events.invariant.kept c.events.invariant.went later.went;
      idle = λ none.
          absurd (some_wait c.is_empty.result c.events.arena.waiting c.is_empty.ensures c.events-test.true (c.events.invariant.idle none).0);
    }

pub returns-clause-stretch : goal.returns-clause-stretch
returns-clause-stretch g c = record { kept = c.events.invariant.kept; went = c.events.invariant.went; ended = tt }

pub returns-in_err-reach_event-clause-idle : goal.returns-in_err-reach_event-clause-idle
returns-in_err-reach_event-clause-idle g c = λ none.
    absurd (some_wait c.is_empty.result c.events.arena.waiting c.is_empty.ensures c.events-test.true (c.events.invariant.idle none).0)

pub returns-clause-idle : goal.returns-clause-idle
returns-clause-idle g c = λ none. (c.events.invariant.idle none).1
