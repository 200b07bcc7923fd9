-- The tasks of an object, made one after another.
use Rattle.std.proofs.Common.{◌≡◌, ℕ, zero, suc, ◌+◌, ◌<◌, ◌≤◌, Bool, true, false, List, [], ◌∷◌, ◌++◌, length, map, take, get_or, refl, ap, sym, ◌∙◌, append_assoc, arith}
use Rattle.std.proofs.lemmas.Grind.{flat_map-append}
use Rattle.std.proofs.lemmas.List.{append-nil, map-append, take_more}
use Rattle.std.specs.declared.alloc.Global.{Global}
use Rattle.std.specs.declared.rc.Rc.{Rc}
use Rattle.gql_base.specs.declared.path_segment.PathSegment.TheVariants as segment
use Rattle.gql_doc.specs.declared.document.Field.{Field}
use Rattle.gql_doc.specs.declared.document.Positioned.{Positioned}
use Rattle.gql_resolve.specs.Layers.{layers_of}
use Rattle.gql_collect.specs.Asks.{asking_at, is_call}
use Rattle.gql_collect.specs.Groups.{united}
use Rattle.gql_objects.specs.Jobs.{Job, job_by, jobs_by_as}
use Rattle.gql_collect.specs.KeyNames.{key_text}
use Rattle.gql_collect.specs.Levels.{Asked, asked_behind, asked_by}
use Rattle.gql_objects.specs.Parents.{jobs_here, rooted, standing_of}
use Rattle.gql_complete.specs.FoundObjects.{Spot}
use Rattle.gql_objects.specs.Tasks.{job_of_task, job_with, jobs_in}
use Rattle.gql_collect.specs.declared.asks.Asks.{Asks}
use Rattle.gql_collect.specs.declared.asks.Asks.TheVariants as asks
use Rattle.gql_collect.specs.declared.basis.Basis.{Basis}
use Rattle.gql_collect.specs.declared.level.Node.{Node}
use Rattle.gql_objects.specs.declared.parent.Parent.{Parent}
use Rattle.gql_objects.specs.declared.task.Task.{Task}
use Rattle.gql_collect.proofs.LevelLemmas.{members_values}

module _ {V : Type 0} where
  called : (root : Asked → Bool) (basis : Basis) (spot : Spot V) (field : Positioned Field) (a : Asks) → is_call a ≡ true
      → job_by root spot (record { basis = basis; field = field; asks = a })
      ≡ record {
        basis = basis;
        object = spot.object;
        field = field;
        asking = asking_at (root (record { basis = basis; field = field; asks = a })) (layers_of basis.layers) spot.parent a;
        path = spot.path ++ segment.Field (key_text field) ∷ [];
      } ∷ []
  called root basis spot field asks.Typename is = cc
  called root basis spot field asks.Nothing is = cc
  called root basis spot field (asks.Call resolver ty arguments) is = refl

  uncalled : (root : Asked → Bool) (basis : Basis) (spot : Spot V) (field : Positioned Field) (a : Asks) → is_call a ≡ false
      → job_by root spot (record { basis = basis; field = field; asks = a }) ≡ []
  uncalled root basis spot field asks.Typename is = refl
  uncalled root basis spot field asks.Nothing is = refl
  uncalled root basis spot field (asks.Call resolver ty arguments) is = cc

  -- a field that asks an answer is a task
  pub one_task : (tasks tasks' : List (Task V)) (task : Task V) (parent : Parent V) (node : Node) → tasks' ≡ tasks ++ task ∷ []
      → task.parent.value ≡ parent → task.node.value ≡ node → is_call node.asks ≡ true
      → jobs_in tasks' ≡ jobs_in tasks ++ job_by (rooted parent.held) (standing_of parent).spot (asked_by node)
  one_task tasks tasks' task parent node added parent_is node_is calls =
      ap jobs_in added
      ∙ map-append job_of_task tasks (task ∷ [])
      ∙ (λ i. jobs_in tasks ++ job_with (parent_is i) (node_is i) ∷ [])
      ∙ ap (λ js. jobs_in tasks ++ js) (sym (called (rooted parent.held) node.basis (standing_of parent).spot (united node.group) node.asks
      calls))

  -- another one is none
  pub no_task : (tasks : List (Task V)) (parent : Parent V) (node : Node) → is_call node.asks ≡ false
      → jobs_in tasks ≡ jobs_in tasks ++ job_by (rooted parent.held) (standing_of parent).spot (asked_by node)
  no_task tasks parent node calls =
      sym (append-nil (jobs_in tasks))
      ∙ ap (λ js. jobs_in tasks ++ js) (sym (uncalled (rooted parent.held) node.basis (standing_of parent).spot (united node.group)
      node.asks calls))

  -- one more field is looked at
  pub tasks_more : (root : Asked → Bool) (spot : Spot V) (nodes : List (Rc Node Global)) (i : ℕ) (node : Rc Node Global)
      (first tasks tasks' : List (Job V))
      → i < length nodes → node ≡ get_or nodes i node → tasks ≡ first ++ jobs_by_as root spot (map asked_behind (take i nodes))
      → tasks' ≡ tasks ++ job_by root spot (asked_behind node)
      → tasks' ≡ first ++ jobs_by_as root spot (map asked_behind (take (i + 1) nodes))
  tasks_more root spot nodes i node first tasks tasks' within read before added =
      let front = map asked_behind (take i nodes) in
      let next : map asked_behind (take (i + 1) nodes) ≡ front ++ asked_behind node ∷ []
      = ap (map asked_behind) (take_more nodes i node within ∙ ap (λ n. take i nodes ++ n ∷ []) (sym read))
      ∙ map-append asked_behind (take i nodes) (node ∷ []) in
      added
      ∙ ap (λ ts. ts ++ job_by root spot (asked_behind node)) before
      ∙ append_assoc first (jobs_by_as root spot front) (job_by root spot (asked_behind node))
      ∙ ap (λ js. first ++ (jobs_by_as root spot front ++ js)) (sym (append-nil (job_by root spot (asked_behind node))))
      ∙ ap (λ js. first ++ js) (sym (flat_map-append (job_by root spot) front (asked_behind node ∷ [])))
      ∙ ap (λ fs. first ++ jobs_by_as root spot fs) (sym next)

take_past : {X : Type 0} (n : ℕ) (xs : List X) → length xs ≤ n → take n xs ≡ xs
take_past zero [] past = refl
take_past zero (x ∷ xs) past = absurd (omega arith)
take_past (suc n) [] past = refl
take_past (suc n) (x ∷ xs) past = ap (λ ys. x ∷ ys) (take_past n xs (omega arith))

-- all fields were looked at
pub tasks_end : {V : Type 0} (parent : Parent V) (nodes : List (Rc Node Global)) (i : ℕ) (first tasks : List (Job V))
    → nodes ≡ parent.level.value.nodes.items → length nodes ≤ i
    → tasks ≡ first ++ jobs_by_as (rooted parent.held) (standing_of parent).spot (map asked_behind (take i nodes))
    → tasks ≡ first ++ jobs_here parent
tasks_end parent nodes i first tasks same past is =
    is
    ∙ ap (λ ns. first ++ jobs_by_as (rooted parent.held) (standing_of parent).spot (map asked_behind ns)) (take_past i nodes past ∙ same)
    ∙ ap (λ fs. first ++ jobs_by_as (rooted parent.held) (standing_of parent).spot fs) (sym (members_values parent.level.value))
