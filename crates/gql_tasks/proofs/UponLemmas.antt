-- One turn from its pick on: the plan is aimed at a task, and the task is taken up.
use Rattle.std.proofs.Common.{ℕ, ◌≡◌, ◌<◌, length, get_or, arith}
use Rattle.std.specs.Prelude.{Some, option_map, slice_get, Result, Ok, Err, IsErrAnd}
use Rattle.std.specs.Option.{ForSome}
use Rattle.gql_request.specs.declared.resolve_info.ResolveInfo.{ResolveInfo}
use Rattle.gql_resolve.specs.declared.resolver_context.ResolverContext.{ResolverContext}
use Rattle.gql_tasks.specs.declared.arena.State.{State}
use Rattle.gql_tasks.specs.declared.given.Given.{Given}
use Rattle.gql_tasks.specs.Parts.{Parts, Moment}
use Rattle.gql_tasks.specs.Plan.{IsContextOf, IsInfoOf}
use Rattle.gql_tasks.specs.Progress.{IsSound, Kept, Went, Ended, Stretch}
use Rattle.gql_tasks.proofs.AdvanceLemmas.{Taken, stands, taken}
use Rattle.gql_tasks.proofs.AimLemmas.{with_plan, kept_aimed, went_aimed}
use Rattle.gql_tasks.proofs.PickLemmas.{picked_within}

module _ {R Own World Future L H P : Type 0} (e : Parts R Own World Future L H P) where
  -- a plan is aimed at the task that the turns chose, and the task is taken up
  pub record Upon (first : Moment R Future L H P) (plan : L) (turns : P) (number : ℕ) (was : State Future) (context : ResolverContext Own) (info : ResolveInfo) : Type 0 where
    pub kept : Kept e first (with_plan first plan)
    pub aimed : Went e first (with_plan first plan)
    pub taken : Taken e (with_plan first plan) turns number was context info

module _ {R Own World Future L H P : Type 0} {e : Parts R Own World Future L H P} where
  pub upon : (first : Moment R Future L H P) (plan : L) (turns : P) (place number : ℕ) (was : State Future) (context : ResolverContext Own) (info : ResolveInfo)
      → e.plan.tasks plan ≡ e.plan.tasks first.plan
      → ((other : ℕ) (g : Given Own) → e.plan.holds first.plan other g → e.plan.holds plan other g)
      → IsSound e first → slice_get first.waiting place ≡ Some number → was ≡ get_or first.states number was
      → ((task : e.plan.Task) → slice_get (e.plan.tasks plan) number ≡ Some task → IsContextOf number (e.plan.asks task) context)
      → ((task : e.plan.Task) → slice_get (e.plan.tasks plan) number ≡ Some task → IsInfoOf (e.plan.asks task) info)
      → ForSome (e.turns.state first.turns) (λ s. place ≡ e.turns.choice s (length first.waiting))
      → e.turns.state turns ≡ option_map (λ s. e.turns.after s (length first.waiting)) (e.turns.state first.turns)
      → Upon e first plan turns number was context info
  upon first plan turns place number was context info tasks_is keeps sound stood read contexts infos choices turns_is =
      let aimed = went_aimed first plan tasks_is keeps sound in
      record { kept = kept_aimed first plan; aimed = aimed; taken = taken turns place number was context info aimed.sound stood read contexts infos choices turns_is }

  -- the number that was picked is that of a task
  pub within : (first : Moment R Future L H P) (place number : ℕ) → IsSound e first → slice_get first.waiting place ≡ Some number
      → (number < length first.states) × (number < length (e.plan.tasks first.plan))
  within first place number sound stood =
      let inside = picked_within place number (stands sound) stood in
      let lengths = sound.lengths in
      (inside, omega arith)

  -- a stretch that ended out of memory
  pub stretch_err : {T Want : Type 0} (Q : Want → Type 0) {old new : Moment R Future L H P} (result : Result T Want) → IsErrAnd result Q → Kept e old new → Ended e old new
      → Stretch e old new result
  stretch_err Q (Ok x) is kept ended = absurd is
  stretch_err Q (Err want) is kept ended = record { kept = kept; went = tt; ended = ended }
