-- What a task comes to with its answer, and the tasks under it.
use Rattle.std.proofs.Common.{◌≡◌, not, Bool, List, [], ◌++◌, map, refl, ap, subst, sym, ◌∙◌}
use Rattle.std.specs.List.{AllByRecursion, flat_map}
use Rattle.std.specs.declared.alloc.Global.{Global}
use Rattle.std.specs.declared.rc.Rc.{Rc}
use Rattle.std.specs.declared.vec.Vec.{Vec}
use Rattle.gql_base.specs.TypeRef.{is_nullable}
use Rattle.gql_base.specs.declared.value.Value.{Value}
use Rattle.gql_tasks.specs.declared.given.Given.TheVariants.{Answered}
use Rattle.gql_meaning.specs.Completion.{Completed, shape_of}
use Rattle.gql_place.specs.Alike.{AreAlikeTrees}
use Rattle.gql_place.specs.declared.piece.Piece.TheVariants as piece
use Rattle.gql_place.specs.declared.place.Tree.TheVariants as tree
use Rattle.gql_place.specs.declared.shape.Shape.TheVariants as shape
use Rattle.gql_resolve.specs.declared.answer.Answer.{Answer}
use Rattle.gql_schema.specs.Table.{types_of}
use Rattle.gql_select.specs.Collected.{own_selections}
use Rattle.gql_collect.specs.Asks.{type_in}
use Rattle.gql_select.specs.Behind.{all_behind}
use Rattle.gql_collect.specs.GroupFields.{keeps_whole}
use Rattle.gql_objects.specs.KeptTasks.{IsFilled}
use Rattle.gql_collect.specs.Groups.{united}
use Rattle.gql_objects.specs.Jobs.{completed_by, Job, jobs_beneath}
use Rattle.gql_objects.specs.Parents.{jobs_of_standing, standing_at, standing_behind}
use Rattle.gql_objects.specs.Assembly.{members_each, place_made}
use Rattle.gql_complete.specs.CompleteValue.{data_in}
use Rattle.gql_complete.specs.Data.{IsData}
use Rattle.gql_complete.specs.FillShape.{tree_with}
use Rattle.gql_engine.specs.PlanHolds.{ComesAlone, IsDataAlone}
use Rattle.gql_objects.specs.ListParents.{AreBelow}
use Rattle.gql_objects.specs.CompletedObjects.{IsPlaced}
use Rattle.gql_complete.specs.FoundObjects.{bare, Spot, spots}
use Rattle.gql_complete.proofs.DataLemmas.{data_kept, data_made, data_without}
use Rattle.gql_objects.specs.Tasks.{IsDeep, job_of_task, job_with, path_with}
use Rattle.gql_collect.specs.declared.group.Group.{Group}
use Rattle.gql_objects.specs.declared.assembly.kept.Filled.{Filled}
use Rattle.gql_objects.specs.declared.assembly.kept.Placed.{Placed}
use Rattle.gql_collect.specs.declared.level.Node.{Node}
use Rattle.gql_objects.specs.declared.parent.Parent.{Parent}
use Rattle.gql_objects.specs.declared.task.Task.{Task}
use Rattle.gql_objects.proofs.ObjectLevelLemmas.{deep_spots, placed_jobs}
use Rattle.gql_collect.proofs.LevelLemmas.{pos_with_others}

-- a united field stands where its first occurrence does
pub pos_united : (group : Group) → group.first.now.pos ≡ (united group).pos
pos_united group = sym (pos_with_others group.first.now (all_behind group.more.items))

module _ {V : Type 0} (parent : Parent V) (node : Node) (answer : Answer V) where
  -- an answer that is completed and taken apart, with its objects
  pub record Takes (whole : Completed V) (found : List (Spot V)) : Type 0 where
    pub whole_is : whole ≡ shape_of (types_of node.basis.types.now) (type_in node.asks) answer.result
    pub found_is : found ≡ spots whole (path_with parent.held node)
    pub below : AreBelow found

  -- an answer whose objects are placed
  pub takes_placed : (old new : List (Job V)) (placed : Placed V)
      → IsPlaced node (path_with parent.held node) old new (shape_of (types_of node.basis.types.now) (type_in node.asks) answer.result) placed
      → Takes (shape_of (types_of node.basis.types.now) (type_in node.asks) answer.result)
      (spots (shape_of (types_of node.basis.types.now) (type_in node.asks) answer.result) (path_with parent.held node))
  takes_placed old new placed is = record { whole_is = refl; found_is = refl; below = is.below }

  -- an answer that is data as it stands has no objects
  data_takes : (value : Value) → IsData (shape_of (types_of node.basis.types.now) (type_in node.asks) answer.result) value
      → Takes (shape_of (types_of node.basis.types.now) (type_in node.asks) answer.result) []
  data_takes value is = record {
    whole_is = refl;
    found_is = sym (data_without (shape_of (types_of node.basis.types.now) (type_in node.asks) answer.result) value is (path_with parent.held node));
    below = tt;
  }

  module _ (whole : Completed V) (found : List (Spot V)) (takes : Takes whole found) where
    spots_are : found ≡ spots (completed_by (job_with parent node) answer) (path_with parent.held node)
    spots_are = takes.found_is ∙ ap (λ c. spots c (path_with parent.held node)) takes.whole_is

    pub takes_filled : (filled : Filled V) (nullable : Bool)
        → filled.pos ≡ node.group.first.now.pos → nullable ≡ is_nullable (type_in node.asks) → filled.non_null ≡ not nullable
        → filled.added ≡ answer.added → filled.headers ≡ answer.headers → filled.whole ≡ keeps_whole node.basis.grouping
        → filled.shape ≡ bare whole → map standing_behind filled.parents.items ≡ map (standing_at node.basis (own_selections (united node.group))) found
        → IsFilled (job_with parent node) answer filled
    takes_filled filled nullable pos_is nullable_is non_null_is added_is headers_is whole_is shape_is parents_are = record {
      pos_is = pos_is ∙ pos_united node.group;
      non_null_is = non_null_is ∙ ap not nullable_is;
      added_is = added_is;
      headers_is = headers_is;
      whole_is = whole_is;
      shape_is = shape_is ∙ ap bare takes.whole_is;
      parents_are = parents_are ∙ ap (map (standing_at node.basis (own_selections (united node.group)))) spots_are;
    }

    pub takes_jobs : (old new : List (Job V))
        → new ≡ old ++ flat_map jobs_of_standing (map (standing_at node.basis (own_selections (united node.group))) found)
        → new ≡ old ++ jobs_beneath (job_with parent node) answer
    takes_jobs old new added =
        added
        ∙ ap (λ ss. old ++ flat_map jobs_of_standing (map (standing_at node.basis (own_selections (united node.group))) ss)) spots_are
        ∙ ap (λ js. old ++ js) (placed_jobs node.basis (own_selections (united node.group)) (spots (completed_by (job_with parent node) answer) (path_with parent.held node)))

    pub takes_deep : AllByRecursion IsDeep (jobs_beneath (job_with parent node) answer)
    takes_deep = deep_spots (job_with parent node) answer (subst AreBelow spots_are takes.below)

-- what an answer that is data as it stands comes to, with no objects
abbrev alone_with : {V : Type 0} → Node → Answer V → Vec (Rc (Parent V) Global) Global → Filled V
alone_with node answer none = record {
  pos = node.group.first.now.pos;
  non_null = not (is_nullable (type_in node.asks));
  added = answer.added;
  headers = answer.headers;
  whole = keeps_whole node.basis.grouping;
  shape = bare (shape_of (types_of node.basis.types.now) (type_in node.asks) answer.result);
  parents = none;
}

-- data as it stands, with nothing beside it, is all that is kept of its place
pub data_comes : {V : Type 0} (task : Task V) (answer : Answer V) (none : Vec (Rc (Parent V) Global) Global) → none.items ≡ [] → IsDataAlone task.node.value answer
    → ComesAlone (Answered answer) (job_of_task task) (piece.Data (data_in answer.result))
data_comes {V = V} task answer none none_is alone =
    let node = task.node.value in
    let parent = task.parent.value in
    let value = data_in answer.result in
    let whole = shape_of (types_of node.basis.types.now) (type_in node.asks) answer.result in
    let filled : Filled V = alone_with node answer none in
    record {
      filled = filled;
      fits =
          takes_filled parent node answer whole [] (data_takes parent node answer value alone.comes) filled (is_nullable (type_in node.asks))
          refl refl refl refl refl refl refl (ap (map standing_behind) none_is);
      none = none_is;
      made = λ apart.
          data_kept (keeps_whole node.basis.grouping) value (place_made filled []) alone.part alone.added alone.headers
          (subst (λ (ps : List (Rc (Parent V) Global)). AreAlikeTrees (tree.Leaf value) (tree_with node.group.first.now.pos (bare whole) (members_each (map standing_behind ps) [])))
          (sym none_is) (data_made whole value alone.comes node.group.first.now.pos));
    }
