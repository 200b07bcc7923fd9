-- Numbers as tasks: their paths, and first numbers as roots.
use Rattle.std.proofs.Common.{ℕ, zero, suc, ◌≡◌, ◌<◌, Bool, true, false, List, [], ◌∷◌, length, refl, sym, ap, subst, ◌∙◌, arith}
use Rattle.std.specs.Prelude.{Option, Some, None, ◌&&◌, option_and_then, slice_get}
use Rattle.std.specs.Borrow.{Bor}
use Rattle.gql_base.specs.declared.path_segment.PathSegment.{PathSegment}
use Rattle.gql_base.specs.declared.value.Value.{Value}
use Rattle.gql_doc.specs.Depth.{deep_from, selections_of, set_beneath}
use Rattle.gql_doc.specs.First.{first_in}
use Rattle.gql_doc.specs.declared.document.Positioned.{Positioned}
use Rattle.gql_doc.specs.declared.document.SelectionSet.{SelectionSet}
use Rattle.gql_lists.proofs.SliceLemmas.{get_at}
use Rattle.gql_request.specs.QueryEnv.{levels_of, NestsIn}
use Rattle.gql_request.specs.declared.query_env.QueryEnv.{QueryEnv}
use Rattle.gql_resolve.specs.Call.{Call, is_mutation, is_single}
use Rattle.gql_resolve.specs.declared.field_value.FieldValue.{FieldValue}
use Rattle.gql_tasks_tests.specs.Numbers.{asking_of, IsAimed, path_of, path_to}
use Rattle.gql_tasks_tests.specs.declared.ground.Ground.{Ground}
use Rattle.gql_tasks_tests.specs.declared.numbers.Number.{Number}

-- a set without selections nests within one level
pub bare_nests : (env : QueryEnv) (set : Positioned SelectionSet) → levels_of env ≡ 1 → selections_of set ≡ [] → NestsIn env set
bare_nests env set one none =
    subst (λ n. deep_from env.fragments n set ≡ None) (sym one)
    (ap (first_in (λ selection. option_and_then (deep_from env.fragments 0) (set_beneath env.fragments selection))) none)

path_some : (above : Option ℕ) (value : ℕ) → 0 < length (path_to above value)
path_some None value = omega arith
path_some (Some above) value = omega arith

-- a path that is aimed isn't empty
pub aimed_some : (tasks : List Number) (path : List PathSegment) (number : ℕ) → number < length tasks → IsAimed tasks path number → 0 < length path
aimed_some tasks path number within aimed =
    let at = get_at tasks number within in
    subst (λ (p : List PathSegment). 0 < length p) (sym (aimed at.0 at.1)) (path_some at.0.above at.0.value)

-- the call of a context, by its parts
abbrev call_at : Bool → ℕ → FieldValue ℕ → List (List ℕ × Value) → List (List (ℕ × Value)) → Call ℕ
call_at root resolver parent arguments layers = record { is_root = root; resolver = resolver; parent = parent; arguments = arguments; layers = layers }

-- a context that is made of the task that was read is that of the task
pub call_is : (here task : Number) → here ≡ task → (segments : List PathSegment) → segments ≡ path_of task → (resolver : ℕ) → resolver ≡ here.value
    → (arguments : List (List ℕ × Value)) → arguments ≡ here.ground.now.arguments
    → (layers : List (List (ℕ × Value))) → layers ≡ here.ground.now.layer ∷ here.ground.now.layer ∷ here.ground.now.layer ∷ []
    → call_at (is_mutation here.ground.now.env.operation.node.ty && is_single segments) resolver here.ground.now.root arguments layers ≡ (asking_of task).call
call_is here task same segments segments_is resolver resolver_is arguments arguments_is layers layers_is =
    let value : resolver ≡ task.value = resolver_is ∙ ap (λ (t : Number). t.value) same in
    let given : arguments ≡ task.ground.now.arguments = arguments_is ∙ ap (λ (t : Number). t.ground.now.arguments) same in
    let seen : layers ≡ task.ground.now.layer ∷ task.ground.now.layer ∷ task.ground.now.layer ∷ []
    = layers_is ∙ ap (λ (t : Number). t.ground.now.layer ∷ t.ground.now.layer ∷ t.ground.now.layer ∷ []) same in
    λ i. call_at (is_mutation (same i).ground.now.env.operation.node.ty && is_single (segments_is i)) (value i) (same i).ground.now.root (given i) (seen i)

-- a first number
abbrev pub first_of : Bor Ground → ℕ → Number
first_of ground value = record { value = value; above = None; ground = ground }

whole : (b : Bool) → (b && true) ≡ b
whole true = refl
whole false = refl

first_root : (ground : Bor Ground) (root : Bool) (value : ℕ) (task : Number) → is_mutation ground.now.env.operation.node.ty ≡ root → first_of ground value ≡ task
    → (asking_of task).call.is_root ≡ root
first_root ground root value task kind is =
    subst (λ (t : Number). (asking_of t).call.is_root ≡ root) is (whole (is_mutation ground.now.env.operation.node.ty) ∙ kind)

pub one_root : (ground : Bor Ground) (root : Bool) (value : ℕ) (tasks : List Number) → is_mutation ground.now.env.operation.node.ty ≡ root → tasks ≡ first_of ground value ∷ []
    → (number : ℕ) (task : Number) → slice_get tasks number ≡ Some task → (asking_of task).call.is_root ≡ root
one_root ground root value tasks kind are number task is = by number (ap (λ ts. slice_get ts number) (sym are) ∙ is)
  where
    by : (n : ℕ) → slice_get (first_of ground value ∷ []) n ≡ Some task → (asking_of task).call.is_root ≡ root
    by zero at = first_root ground root value task kind (cc)
    by (suc n) at = absurd (cc)

pub two_roots : (ground : Bor Ground) (root : Bool) (one other : ℕ) (tasks : List Number) → is_mutation ground.now.env.operation.node.ty ≡ root
    → tasks ≡ first_of ground one ∷ first_of ground other ∷ []
    → (number : ℕ) (task : Number) → slice_get tasks number ≡ Some task → (asking_of task).call.is_root ≡ root
two_roots ground root one other tasks kind are number task is = by number (ap (λ ts. slice_get ts number) (sym are) ∙ is)
  where
    by : (n : ℕ) → slice_get (first_of ground one ∷ first_of ground other ∷ []) n ≡ Some task → (asking_of task).call.is_root ≡ root
    by zero at = first_root ground root one task kind (cc)
    by (suc zero) at = first_root ground root other task kind (cc)
    by (suc (suc n)) at = absurd (cc)
