use Rattle.std.proofs.Common.{◌≡◌, ◌∷◌, ◌++◌, ◌∙◌, [], List, ap, arith, drop, length, subst, sym, take}
use Rattle.std.specs.List.{AllByRecursion}
use Rattle.gql_tasks.proofs.RootLemmas.{if_err}
use Rattle.gql_tasks.specs.Parts.{at, root_parts}
use Rattle.gql_tasks.specs.Phases.{CutInTurn, InTurn, serving_by, world_past}
use Rattle.gql_engine.specs.RootKeys.{IsKey}
use Rattle.gql_engine.specs.ExecuteQuery.{job_subject}
use Rattle.gql_engine.specs.ExecuteMutation.{PlacedInTurn}
use Rattle.gql_objects.specs.Tasks.{job_of_task, jobs_in}
use Rattle.gql_objects.specs.declared.task.Task.{Task}
use Rattle.gql_objects.proofs.AssemblyLemmas.{no_length}
use Rattle.gql_engine.proofs.RootKeyLemmas.{drop_next, drop_past, drop_within, in_turn_again, right_there, take_drop, take_many, take_next, take_whole}
use Rattle.gql_engine.proofs.MutationLemmas.{placed_next}
use Rattle.gql_engine.proofs.root_keys.answer_keys.Goals as goal

pub answer_key-requires-clause-between : goal.answer_key-requires-clause-between
answer_key-requires-clause-between g c = in_turn_again c.keys.invariant.turn

pub keys-preserved : goal.keys-preserved
keys-preserved g c =
    let e = root_parts g.R.ResolverSet (Rattle.gql_engine.specs.contracts.execute_field.tree_plan.TreePlanPlan.TheImpl.ghosts g.row.R-Own g.R.Own.Destruct-dict) g.H.Rounds g.P.Turns in
    let first = at c.args.plan.now c.args.arena.now c.args.run.now in
    let all = jobs_in c.args.tasks.items in
    let n = length c.keys.own.items in
    let root = job_of_task c.in-Some.task in
    let rest = jobs_in c.pop_front.new.self.items in
    let next : drop n all ≡ root ∷ rest = c.keys.invariant.left ∙ ap jobs_in c.in-Some.ensures.items in
    let new = at c.answer_key.new.plan c.answer_key.new.arena c.answer_key.new.run in
    let long = c.in_ok-answer_key.ensures.own in
    let taken : take (length c.answer_key.new.own.items) all ≡ take n all ++ root ∷ [] = ap (λ k. take k all) long ∙ take_next n all root rest next in
    let turn = c.keys.invariant.turn in
    record {
      turn = subst (λ ds. InTurn e first new ds) (sym taken) (c.in_ok-answer_key.ensures.over.turn first (take n all) turn);
      left = ap (λ k. drop k all) long ∙ drop_next n all root rest next;
      within = (let w = drop_within n all root rest next in let l = long in omega arith);
      keys = (subst (λ (ts : List (Task g.row.R-Own.Denot)). AllByRecursion IsKey (jobs_in ts)) c.in-Some.ensures.items c.keys.invariant.keys).1;
      closed = c.in_ok-answer_key.ensures.closed;
      placed = λ law calm.
          let serving = serving_by g.R.ResolverSet c.args.run.now.set.now in
          let world = g.R.ResolverSet.world c.args.run.now.set.now in
          let has = c.in_ok-answer_key.ensures.placed (turn.steady.lawful_is law) (turn.steady.quiet_is calm) in
          let right = right_there g.R.ResolverSet (g.R.ResolverSet.rules c.keys.run.set.now) (g.R.ResolverSet.rules c.args.run.now.set.now) (g.R.ResolverSet.world c.keys.run.set.now)
          (world_past serving job_subject world (take n all)) root has.place turn.steady.rules_is (turn.world law calm) has.right in
          subst (λ ds. PlacedInTurn serving world ds c.answer_key.new.own.items) (sym taken)
          (subst (λ os. PlacedInTurn serving world (take n all ++ root ∷ []) os) (sym has.added)
          (placed_next serving world (take n all) root c.keys.own.items has.place (c.keys.invariant.placed law calm) right));
      idle = λ none. absurd (let w = drop_within n all root rest next in let z = ap length none in omega arith);
    }

pub returns-in_err-answer_key-clause-idle : goal.returns-in_err-answer_key-clause-idle
returns-in_err-answer_key-clause-idle g c = λ none.
    let all = jobs_in c.args.tasks.items in
    let n = length c.keys.own.items in
    let root = job_of_task c.in-Some.task in
    let rest = jobs_in c.pop_front.new.self.items in
    let next : drop n all ≡ root ∷ rest = c.keys.invariant.left ∙ ap jobs_in c.in-Some.ensures.items in
    absurd (let w = drop_within n all root rest next in let z = ap length none in omega arith)

pub returns-in_err-answer_key-clause-cut : goal.returns-in_err-answer_key-clause-cut
returns-in_err-answer_key-clause-cut g c =
    let e = root_parts g.R.ResolverSet (Rattle.gql_engine.specs.contracts.execute_field.tree_plan.TreePlanPlan.TheImpl.ghosts g.row.R-Own g.R.Own.Destruct-dict) g.H.Rounds g.P.Turns in
    let first = at c.args.plan.now c.args.arena.now c.args.run.now in
    let all = jobs_in c.args.tasks.items in
    let n = length c.keys.own.items in
    let root = job_of_task c.in-Some.task in
    let rest = jobs_in c.pop_front.new.self.items in
    let next : drop n all ≡ root ∷ rest = c.keys.invariant.left ∙ ap jobs_in c.in-Some.ensures.items in
    let new = at c.answer_key.new.plan c.answer_key.new.arena c.answer_key.new.run in
    let whole = take_drop n all (root ∷ rest) next in
    let cut = c.in_err-answer_key.ensures.cut.cut first (take n all) rest c.keys.invariant.turn (take_many n all root rest next) in
    if_err _ (CutInTurn e first new all) c.from_residual.result c.from_residual.ensures.1
    (λ want is. subst (λ w. CutInTurn e first new all w) (sym is) (subst (λ rs. CutInTurn e first new rs c.in_err-answer_key.field-0.0) (sym whole) cut))

pub returns-clause-over : goal.returns-clause-over
returns-clause-over g c =
    let e = root_parts g.R.ResolverSet (Rattle.gql_engine.specs.contracts.execute_field.tree_plan.TreePlanPlan.TheImpl.ghosts g.row.R-Own g.R.Own.Destruct-dict) g.H.Rounds g.P.Turns in
    let first = at c.args.plan.now c.args.arena.now c.args.run.now in
    let all = jobs_in c.args.tasks.items in
    let n = length c.keys.own.items in
    let new = at c.keys.plan c.keys.arena c.keys.run in
    let none = no_length c.keys.tasks.items (sym c.keys.tasks.ok.0 ∙ c.in_default.ensures.cases.0) in
    subst (λ ds. InTurn e first new ds) (take_whole n all (c.keys.invariant.left ∙ ap jobs_in none)) c.keys.invariant.turn

pub returns-clause-placed : goal.returns-clause-placed
returns-clause-placed g c = λ law calm.
    let e = root_parts g.R.ResolverSet (Rattle.gql_engine.specs.contracts.execute_field.tree_plan.TreePlanPlan.TheImpl.ghosts g.row.R-Own g.R.Own.Destruct-dict) g.H.Rounds g.P.Turns in
    let first = at c.args.plan.now c.args.arena.now c.args.run.now in
    let all = jobs_in c.args.tasks.items in
    let n = length c.keys.own.items in
    let none = no_length c.keys.tasks.items (sym c.keys.tasks.ok.0 ∙ c.in_default.ensures.cases.0) in
    subst (λ ds. PlacedInTurn (serving_by g.R.ResolverSet c.args.run.now.set.now) (g.R.ResolverSet.world c.args.run.now.set.now) ds c.keys.own.items)
    (take_whole n all (c.keys.invariant.left ∙ ap jobs_in none)) (c.keys.invariant.placed law calm)

pub returns-clause-count : goal.returns-clause-count
returns-clause-count g c =
    let e = root_parts g.R.ResolverSet (Rattle.gql_engine.specs.contracts.execute_field.tree_plan.TreePlanPlan.TheImpl.ghosts g.row.R-Own g.R.Own.Destruct-dict) g.H.Rounds g.P.Turns in
    let first = at c.args.plan.now c.args.arena.now c.args.run.now in
    let all = jobs_in c.args.tasks.items in
    let n = length c.keys.own.items in
    let none = no_length c.keys.tasks.items (sym c.keys.tasks.ok.0 ∙ c.in_default.ensures.cases.0) in
    let past = drop_past n all (c.keys.invariant.left ∙ ap jobs_in none) in
    let within = c.keys.invariant.within in
    omega arith
