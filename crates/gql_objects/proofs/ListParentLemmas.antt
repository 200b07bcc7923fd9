-- The objects of a list, each with its fields and its tasks.
use Rattle.std.proofs.Common.{rules, ◌≡◌, ℕ, suc, ◌+◌, Bool, List, [], ◌∷◌, ◌++◌, length, map, replicate, refl, ap, subst, sym, ◌∙◌, arith, append_assoc, length-append}
use Rattle.std.proofs.lemmas.List.{length-map, map-append}
use Rattle.std.specs.List.{flat_map}
use Rattle.std.specs.declared.alloc.Global.{Global}
use Rattle.std.specs.declared.rc.Rc.{Rc}
use Rattle.gql_base.specs.declared.path_segment.PathSegment.{PathSegment}
use Rattle.gql_base.specs.declared.path_segment.PathSegment.TheVariants as segment
use Rattle.gql_meaning.specs.Completion.{Completed}
use Rattle.gql_place.specs.declared.shape.Shape.{the_lemmas}
use Rattle.gql_place.specs.declared.shape.Shape.TheVariants as shape
use Rattle.gql_resolve.specs.declared.field_value.FieldValue.{FieldValue}
use Rattle.gql_select.specs.Collected.{own_selections}
use Rattle.gql_objects.specs.ObjectLevels.{IsBeneath}
use Rattle.gql_collect.specs.Groups.{united}
use Rattle.gql_objects.specs.Jobs.{Job}
use Rattle.gql_objects.specs.ListParents.{AreBelow, item_spots, item_standing, items_standing}
use Rattle.gql_complete.specs.ObjectLists.{objects_in}
use Rattle.gql_objects.specs.Parents.{jobs_here, jobs_of_standing, Standing, standing_at, standing_behind}
use Rattle.gql_objects.specs.Paths.{path_of}
use Rattle.gql_complete.specs.FoundObjects.{Bare, bare, numbered, spots}
use Rattle.gql_collect.specs.declared.level.Node.{Node}
use Rattle.gql_objects.specs.declared.parent.Shared.{Shared}
use Rattle.gql_objects.specs.declared.parent.Parent.{Parent}
use Rattle.gql_objects.proofs.FoundLemmas.{spots-List, spots-Object}

module _ {V : Type 0} where
  numbered_objects : (name : List ℕ) (path : List PathSegment) (n : ℕ) (items : List (FieldValue V))
      → numbered n (map spots (map (shape.Object name) items)) path ≡ item_spots name path n items
  numbered_objects name path n [] = refl
  numbered_objects name path n (item ∷ items) =
      λ i. spots-Object V name item (path ++ segment.Index n ∷ []) i ++ numbered_objects name path (suc n) items i

  -- the objects of a list of objects
  spots_objects : (name : List ℕ) (path : List PathSegment) (non_null : Bool) (items : List (FieldValue V))
      → spots (objects_in name non_null items) path ≡ item_spots name path 0 items
  spots_objects name path non_null items = spots-List V non_null (map (shape.Object name) items) path ∙ numbered_objects name path 0 items

  bare-List : (non_null : Bool) (items : List (Completed V)) → bare (shape.List non_null items) ≡ shape.List non_null (map bare items)
  bare-List non_null items = search (rules, the_lemmas)

  bare-Object : (name : List ℕ) (item : FieldValue V) → bare (shape.Object name item) ≡ shape.Object tt tt
  bare-Object name item = search (rules, the_lemmas)

  bare_each : (name : List ℕ) (items : List (FieldValue V))
      → map bare (map (shape.Object name) items) ≡ replicate {A = Bare} (length items) (shape.Object tt tt)
  bare_each name [] = refl
  bare_each name (item ∷ items) = λ i. bare-Object name item i ∷ bare_each name items i

  -- what is left of a list of objects
  bare_objects : (name : List ℕ) (non_null : Bool) (items : List (FieldValue V))
      → bare (objects_in name non_null items) ≡ shape.List non_null (replicate {A = Bare} (length items) (shape.Object tt tt))
  bare_objects name non_null items = bare-List non_null (map (shape.Object name) items) ∙ ap (shape.List non_null) (bare_each name items)

  items_below : (name : List ℕ) (path : List PathSegment) (n : ℕ) (items : List (FieldValue V)) → AreBelow (item_spots name path n items)
  items_below name path n [] = tt
  items_below name path n (item ∷ items) =
      ((let e = length-append path (segment.Index n ∷ []) in omega arith), items_below name path (suc n) items)

  items_long : (shared : Shared) (n : ℕ) (items : List (FieldValue V)) → length (items_standing shared n items) ≡ length items
  items_long shared n [] = refl
  items_long shared n (item ∷ items) = ap suc (items_long shared (suc n) items)

  module _ (shared : Shared) where
    -- one more item stands as an object
    pub items_more : (parents parents' : List (Rc (Parent V) Global)) (parent : Rc (Parent V) Global) (its rest : List (FieldValue V))
        (item : FieldValue V) (all : List (Standing V))
        → its ≡ item ∷ rest → parents' ≡ parents ++ parent ∷ [] → standing_behind parent ≡ item_standing shared (length parents) item
        → map standing_behind parents ++ items_standing shared (length parents) its ≡ all
        → map standing_behind parents' ++ items_standing shared (length parents') rest ≡ all
    items_more parents parents' parent its rest item all is added stands before =
        let long : length parents' ≡ suc (length parents) =
        (let e = length-append parents (parent ∷ []) in let f = ap length added in omega arith) in
        let others = items_standing shared (suc (length parents)) rest in
        (λ i. map standing_behind (added i) ++ items_standing shared (long i) rest)
        ∙ ap (λ ss. ss ++ others) (map-append standing_behind parents (parent ∷ []))
        ∙ append_assoc (map standing_behind parents) (standing_behind parent ∷ []) others
        ∙ ap (λ s. map standing_behind parents ++ s ∷ others) stands
        ∙ ap (λ xs. map standing_behind parents ++ items_standing shared (length parents) xs) (sym is)
        ∙ before

    -- and has its tasks
    pub item_tasks_more : (parents parents' : List (Rc (Parent V) Global)) (parent : Rc (Parent V) Global) (its rest : List (FieldValue V))
        (item : FieldValue V) (jobs jobs' all : List (Job V))
        → its ≡ item ∷ rest → parents' ≡ parents ++ parent ∷ [] → standing_behind parent ≡ item_standing shared (length parents) item
        → jobs' ≡ jobs ++ jobs_here parent.value → jobs_here parent.value ≡ jobs_of_standing (standing_behind parent)
        → jobs ++ flat_map jobs_of_standing (items_standing shared (length parents) its) ≡ all
        → jobs' ++ flat_map jobs_of_standing (items_standing shared (length parents') rest) ≡ all
    item_tasks_more parents parents' parent its rest item jobs jobs' all is pushed stands added own before =
        let long : length parents' ≡ suc (length parents) =
        (let e = length-append parents (parent ∷ []) in let f = ap length pushed in omega arith) in
        let others = flat_map jobs_of_standing (items_standing shared (suc (length parents)) rest) in
        (λ i. (added ∙ ap (λ js. jobs ++ js) own) i ++ flat_map jobs_of_standing (items_standing shared (long i) rest))
        ∙ append_assoc jobs (jobs_of_standing (standing_behind parent)) others
        ∙ ap (λ s. jobs ++ (jobs_of_standing s ++ others)) stands
        ∙ ap (λ xs. jobs ++ flat_map jobs_of_standing (items_standing shared (length parents) xs)) (sym is)
        ∙ before

    module _ (node : Node) (object : List ℕ) (beneath : IsBeneath node object shared.level.value) (path : List PathSegment)
        (path_is : path_of shared.steps.value.items ≡ path) where
      item_stands : (n : ℕ) (item : FieldValue V)
          → item_standing shared n item
          ≡ standing_at node.basis (own_selections (united node.group))
          (record { object = object; parent = item; path = path ++ segment.Index n ∷ [] })
      item_stands n item =
          λ i. record {
            spot = record { object = beneath.object_is i; parent = item; path = path_is i ++ segment.Index n ∷ [] };
            members =
                beneath.members_are i;
          }

      items_stand : (n : ℕ) (items : List (FieldValue V))
          → items_standing shared n items ≡ map (standing_at node.basis (own_selections (united node.group)))
          (item_spots object path n items)
      items_stand n [] = refl
      items_stand n (item ∷ items) = λ i. item_stands n item i ∷ items_stand (suc n) items i

      module _ (non_null : Bool) (items : List (FieldValue V)) where
        all_stand : items_standing shared 0 items ≡ map (standing_at node.basis (own_selections (united node.group)))
            (spots (objects_in object non_null items) path)
        all_stand = items_stand 0 items ∙ ap (map (standing_at node.basis (own_selections (united node.group))))
            (sym (spots_objects object path non_null items))

        -- the objects of a list with their fields
        pub list_parents : (parents : List (Rc (Parent V) Global)) → map standing_behind parents ≡ items_standing shared 0 items
            → map standing_behind parents ≡ map (standing_at node.basis (own_selections (united node.group)))
            (spots (objects_in object non_null items) path)
        list_parents parents is = is ∙ all_stand

        -- with their tasks
        pub list_tasks : (old new : List (Job V)) → new ≡ old ++ flat_map jobs_of_standing (items_standing shared 0 items)
            → new ≡ old ++ flat_map jobs_of_standing
            (map (standing_at node.basis (own_selections (united node.group))) (spots (objects_in object non_null items) path))
        list_tasks old new is = is ∙ ap (λ ss. old ++ flat_map jobs_of_standing ss) all_stand

        -- what is left without them
        pub list_shape : (parents : List (Rc (Parent V) Global)) (count : ℕ) (shapes : List Bare)
            → map standing_behind parents ≡ items_standing shared 0 items → count ≡ length parents
            → shapes ≡ replicate count (shape.Object tt tt) → shape.List non_null shapes ≡ bare (objects_in object non_null items)
        list_shape parents count shapes is count_is shapes_are =
            let long : count ≡ length items
            = count_is ∙ sym (length-map parents standing_behind) ∙ ap length is ∙ items_long shared 0 items in
            ap (shape.List non_null) (shapes_are ∙ ap (λ n. replicate {A = Bare} n (shape.Object tt tt)) long)
            ∙ sym (bare_objects object non_null items)

        -- none of them is at the root
        pub list_below : AreBelow (spots (objects_in object non_null items) path)
        list_below = subst AreBelow (sym (spots_objects object path non_null items)) (items_below object path 0 items)
