use Rattle.std.proofs.Common.{◌≡◌, true, false, ap, sym, subst, ◌∙◌, length}
use Rattle.std.specs.Prelude.{Ok}
use Rattle.gql_tasks.specs.Parts.{root_parts, at}
use Rattle.gql_tasks.specs.Root.{RootEnded, RootReached}
use Rattle.gql_tasks.proofs.RootLemmas.{still_none, still_trans, answered_on, root_ended_on, if_err}
use Rattle.gql_tasks.proofs.root.answer_root.Goals as goal

pub events-init : goal.events-init
events-init g c =
    let first = at c.args.plan.now c.args.arena.now c.args.run.now in
    record { waits = still_none {e = root_parts g.R.ResolverSet g.L.Plan g.H.Rounds g.P.Turns} first c.requires.sound }

pub reach_root-requires-clause-sound : goal.reach_root-requires-clause-sound
reach_root-requires-clause-sound g c = c.events.invariant.waits.went.sound

pub reach_root-requires-clause-alone : goal.reach_root-requires-clause-alone
reach_root-requires-clause-alone g c = ap length c.events.invariant.waits.waits ∙ c.requires.alone

pub returns-in_err-reach_root-clause-ended : goal.returns-in_err-reach_root-clause-ended
returns-in_err-reach_root-clause-ended g c =
    let e = root_parts g.R.ResolverSet g.L.Plan g.H.Rounds g.P.Turns in
    let first = at c.args.plan.now c.args.arena.now c.args.run.now in
    let new = at c.reach_root.new.plan c.reach_root.new.arena c.reach_root.new.run in
    let middle = at c.events.plan c.events.arena c.events.run in
    if_err _ (RootEnded e first new) c.from_residual.result c.from_residual.ensures.1
    (λ want is. root_ended_on want c.events.invariant.waits (subst (λ w. RootEnded e middle new w) (sym is) c.in_err-reach_root.ensures.reached))

pub returns-then-branch-clause-answered : goal.returns-then-branch-clause-answered
returns-then-branch-clause-answered g c =
    let e = root_parts g.R.ResolverSet g.L.Plan g.H.Rounds g.P.Turns in
    let middle = at c.events.plan c.events.arena c.events.run in
    let new = at c.reach_root.new.plan c.reach_root.new.arena c.reach_root.new.run in
    let over : c.in_ok-reach_root.field-0 ≡ true = c.if-branch.true in
    answered_on c.events.invariant.waits (subst (λ b. RootReached e middle new (Ok b)) over c.in_ok-reach_root.ensures.reached)

pub events-preserved : goal.events-preserved
events-preserved g c =
    let e = root_parts g.R.ResolverSet g.L.Plan g.H.Rounds g.P.Turns in
    let middle = at c.events.plan c.events.arena c.events.run in
    let new = at c.reach_root.new.plan c.reach_root.new.arena c.reach_root.new.run in
    let pending : c.in_ok-reach_root.field-0 ≡ false = c.if-branch.false in
    record { waits = still_trans c.events.invariant.waits (subst (λ b. RootReached e middle new (Ok b)) pending c.in_ok-reach_root.ensures.reached) }
