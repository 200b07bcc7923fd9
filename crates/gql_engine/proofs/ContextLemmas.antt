-- What the resolver of a task is told of it.
use Rattle.std.proofs.Common.{◌≡◌, ℕ, ◌<◌, Bool, true, false, List, [], ◌∷◌, ◌++◌, length, Some, slice_get, refl, ap, subst, sym, ◌∙◌, arith}
use Rattle.std.specs.Prelude.{◌&&◌}
use Rattle.gql_base.specs.declared.path_segment.PathSegment.{PathSegment}
use Rattle.gql_base.specs.declared.path_segment.PathSegment.TheVariants as segment
use Rattle.gql_lists.proofs.SliceLemmas.{get_map}
use Rattle.gql_collect.specs.KeyNames.{key_text}
use Rattle.gql_tasks.specs.Plan.{IsContextOf}
use Rattle.gql_input.specs.Accessor.{members_behind}
use Rattle.gql_request.specs.declared.query_env.QueryEnv.{QueryEnv}
use Rattle.gql_resolve.specs.Call.{is_mutation, is_single}
use Rattle.gql_resolve.specs.Layers.{layers_of}
use Rattle.gql_resolve.specs.declared.resolver_context.ResolverContext.{ResolverContext}
use Rattle.gql_collect.specs.Asks.{arguments_in, resolver_in}
use Rattle.gql_collect.specs.Groups.{united}
use Rattle.gql_engine.specs.GivenTasks.{asked_by_job}
use Rattle.gql_objects.specs.Jobs.{Job}
use Rattle.gql_collect.specs.Levels.{Asked, asked_by}
use Rattle.gql_objects.specs.Parents.{path_to, rooted, steps_by, value_of}
use Rattle.gql_objects.specs.Paths.{path_of}
use Rattle.gql_objects.specs.Tasks.{job_of_task, jobs_in}
use Rattle.gql_objects.specs.declared.parent.Held.{Held}
use Rattle.gql_objects.specs.declared.parent.Held.TheVariants as held
use Rattle.gql_objects.specs.declared.step.Step.{Step}
use Rattle.gql_objects.specs.declared.task.Task.{Task}
use Rattle.gql_objects.proofs.PathLemmas.{trail_some}

and_true : (b : Bool) → (b && true) ≡ b
and_true true = refl
and_true false = refl

and_false : (b : Bool) → (b && false) ≡ false
and_false true = refl
and_false false = refl

-- a path of steps and one segment more
not_single : (steps : List Step) (last : PathSegment) → 0 < length steps → is_single (path_of steps ++ last ∷ []) ≡ false
not_single [] last below = absurd (omega arith)
not_single (s ∷ []) last below = refl
not_single (s ∷ t ∷ steps) last below = refl

module _ {V : Type 0} where
  -- a task is a root of a mutation where it stands at the root of one
  root_at : (held : Held V) (asked : Asked) (key : List ℕ) → (is_mutation asked.basis.env.now.operation.node.ty && is_single (path_to held ++ segment.Field key ∷ [])) ≡ rooted held asked
  root_at (held.Root root) asked key = and_true (is_mutation asked.basis.env.now.operation.node.ty)
  root_at (held.Found value trail) asked key =
      ap (λ b. is_mutation asked.basis.env.now.operation.node.ty && b) (not_single (steps_by trail) (segment.Field key) (trail_some trail))
      ∙ and_false (is_mutation asked.basis.env.now.operation.node.ty)

  -- the task of a number as it is known and as it is held
  pub job_here : (tasks : List (Task V)) (number : ℕ) (task : Task V) (job : Job V) → slice_get tasks number ≡ Some task → slice_get (jobs_in tasks) number ≡ Some job
      → job_of_task task ≡ job
  job_here tasks number task job there is = (let e : Some (job_of_task task) ≡ Some job = sym (get_map job_of_task tasks number task there) ∙ is in cc)

  -- a context that is made of a task is the task's
  pub context_is : (number : ℕ) (task : Task V) (context : ResolverContext V) → context.resolver ≡ resolver_in task.node.value.asks
      → members_behind context.args ≡ arguments_in task.node.value.asks → context.parent_value.now ≡ value_of task.parent.value.held
      → context.layers ≡ task.node.value.basis.layers → context.env.now ≡ task.node.value.basis.env.now → context.task ≡ number
      → context.path_node.segments.now ≡ (job_of_task task).path → context.item.now ≡ (united task.node.value.group).node
      → IsContextOf number (asked_by_job (job_of_task task)) context
  context_is number task context resolver_is arguments_is parent_is layers_is env_is task_is path_is item_is =
      let root : (is_mutation context.env.now.operation.node.ty && is_single context.path_node.segments.now) ≡ rooted task.parent.value.held (asked_by task.node.value)
      = ap (λ (e : QueryEnv). is_mutation e.operation.node.ty && is_single context.path_node.segments.now) env_is
      ∙ ap (λ ss. is_mutation task.node.value.basis.env.now.operation.node.ty && is_single ss) path_is
      ∙ root_at task.parent.value.held (asked_by task.node.value) (key_text (united task.node.value.group)) in
      record {
        call_is = λ i. record {
          is_root = root i;
          resolver = resolver_is i;
          parent = parent_is i;
          arguments = arguments_is i;
          layers = layers_of (layers_is i);
        };
        task_is = task_is;
        segments_is = path_is;
        item_is = item_is;
        env_is = env_is;
      }

  -- the same of the task that is known
  pub context_of : (tasks : List (Task V)) (number : ℕ) (task : Task V) (job : Job V) (context : ResolverContext V) → slice_get tasks number ≡ Some task
      → slice_get (jobs_in tasks) number ≡ Some job → IsContextOf number (asked_by_job (job_of_task task)) context → IsContextOf number (asked_by_job job) context
  context_of tasks number task job context there is own = subst (λ (j : Job V). IsContextOf number (asked_by_job j) context) (job_here tasks number task job there is) own
