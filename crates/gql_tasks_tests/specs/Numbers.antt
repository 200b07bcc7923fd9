-- Numbers as tasks: what each asks, and which are under it.
use Rattle.std.proofs.Common.{zero, suc, Bool, true, false, refl, subst}
use Rattle.std.specs.Prelude.{ℕ, ◌≡◌, ◌&&◌, List, [], ◌∷◌, Option, Some, None, slice_get}
use Rattle.gql_base.specs.declared.path_segment.PathSegment.{PathSegment}
use Rattle.gql_base.specs.declared.path_segment.PathSegment.TheVariants as segment
use Rattle.gql_resolve.specs.Call.{is_mutation, is_single}
use Rattle.gql_resolve.specs.declared.answer.Answer.{Answer}
use Rattle.gql_tasks.specs.Plan.{Asking}
use Rattle.gql_tasks_tests.specs.declared.numbers.Number.{Number}

-- a path to a number: the one above it, if there is one, and its own
abbrev pub path_to : Option ℕ → ℕ → List PathSegment
path_to None value = segment.Index value ∷ []
path_to (Some above) value = segment.Index above ∷ segment.Index value ∷ []

abbrev pub path_of : Number → List PathSegment
path_of task = path_to task.above task.value

-- what a number asks: the resolver of its own number
abbrev pub asking_of : Number → Asking ℕ
asking_of task = record {
  call = record {
    is_root = is_mutation task.ground.now.env.operation.node.ty && is_single (path_of task);
    resolver = task.value;
    parent = task.ground.now.root;
    arguments = task.ground.now.arguments;
    layers = task.ground.now.layer ∷ task.ground.now.layer ∷ task.ground.now.layer ∷ [];
  };
  segments = path_of task;
  item = task.ground.now.field;
  env = task.ground.now.env;
  parent = task.ground.now.object;
  ty = task.ground.now.ty;
}

-- a number under another one
abbrev pub number_below : Number → ℕ → Number
number_below task value = record task { value = value; above = Some task.value }

-- under each first number there are 0 and 1
abbrev pub below : Option ℕ → Number → List Number
below None task = number_below task 0 ∷ number_below task 1 ∷ []
below (Some above) task = []

abbrev pub numbers_below : Number → Answer ℕ → List Number
numbers_below task answer = below task.above task

-- the path is the one to the number of a task
abbrev pub IsAimed : List Number → List PathSegment → ℕ → Type 0
IsAimed tasks path number = (task : Number) → slice_get tasks number ≡ Some task → path ≡ path_of task

-- a number under another one is no root of a mutation
no_root : (b : Bool) → (b && false) ≡ false
no_root true = refl
no_root false = refl

below_is : (task : Number) (value : ℕ) (found : Number) → number_below task value ≡ found → (asking_of found).call.is_root ≡ false
below_is task value found is =
    subst (λ (t : Number). (asking_of t).call.is_root ≡ false) is (no_root (is_mutation task.ground.now.env.operation.node.ty))

below_none : (above : Option ℕ) (task : Number) (place : ℕ) (found : Number) → slice_get (below above task) place ≡ Some found
    → (asking_of found).call.is_root ≡ false
below_none None task zero found is = below_is task 0 found (cc)
below_none None task (suc zero) found is = below_is task 1 found (cc)
below_none None task (suc (suc place)) found is = absurd (cc)
below_none (Some above) task place found is = absurd (cc)

pub none_is_root : (task : Number) (answer : Answer ℕ) (place : ℕ) (found : Number)
    → slice_get (numbers_below task answer) place ≡ Some found → (asking_of found).call.is_root ≡ false
none_is_root task answer place found is = below_none task.above task place found is
