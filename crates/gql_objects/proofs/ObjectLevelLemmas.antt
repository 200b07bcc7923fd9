-- The tasks under an answer, and the levels of its objects.
use Rattle.std.proofs.Common.{◌≡◌, ℕ, zero, suc, ◌<◌, Bool, true, false, cond, List, [], ◌∷◌, ◌++◌, length, map, Option, Some, None, slice_get, refl, ap, sym, subst, ◌∙◌, arith, append_assoc, length-append}
use Rattle.std.proofs.lemmas.List.{map-append}
use Rattle.std.specs.Prelude.{option_map}
use Rattle.std.specs.List.{AllByRecursion, flat_map}
use Rattle.std.specs.Cmp.Lexicographic.{bytes_decides}
use Rattle.std.specs.Str.{bytes_eq}
use Rattle.std.specs.declared.alloc.Global.{Global}
use Rattle.std.specs.declared.rc.Rc.{Rc}
use Rattle.gql_base.specs.Pairs.{put, under, values_of}
use Rattle.gql_base.specs.declared.path_segment.PathSegment.TheVariants as segment
use Rattle.gql_doc.specs.Depth.{field_set}
use Rattle.gql_doc.specs.declared.document.Field.{Field}
use Rattle.gql_doc.specs.declared.document.Positioned.{Positioned}
use Rattle.gql_doc.specs.declared.document.Selection.{Selection}
use Rattle.gql_collect.specs.KeyNames.{key_text}
use Rattle.gql_collect.specs.Execution.{Asking, field_asking}
use Rattle.gql_request.specs.QueryEnv.{levels_of, NestsIn}
use Rattle.gql_resolve.specs.declared.answer.Answer.{Answer}
use Rattle.gql_select.specs.Collected.{own_selections}
use Rattle.gql_collect.specs.Basis.{execution_of, setting_by}
use Rattle.gql_objects.specs.ObjectLevels.{AreBeneath, IsBeneath, level_behind}
use Rattle.gql_collect.specs.GroupFields.{collected}
use Rattle.gql_collect.specs.GroupFields.{groups_in}
use Rattle.gql_collect.specs.Groups.{united}
use Rattle.gql_objects.specs.Jobs.{completed_by, Job, job_at, jobs_at, jobs_at_as, jobs_beneath, jobs_of_as}
use Rattle.gql_objects.specs.ListParents.{AreBelow}
use Rattle.gql_objects.specs.Parents.{jobs_here, jobs_of_standing, spot_found, Standing, standing_at, standing_behind, steps_by}
use Rattle.gql_objects.specs.Paths.{path_of}
use Rattle.gql_complete.specs.FoundObjects.{Spot, spots}
use Rattle.gql_objects.specs.Tasks.{IsDeep}
use Rattle.gql_collect.specs.Nesting.{AllNest, IsWithin}
use Rattle.gql_collect.specs.declared.basis.Basis.{Basis}
use Rattle.gql_collect.specs.declared.level.Level.{Level}
use Rattle.gql_collect.specs.declared.level.Node.{Node}
use Rattle.gql_objects.specs.declared.parent.Found.{Found}
use Rattle.gql_objects.specs.declared.parent.Parent.{Parent}
use Rattle.gql_objects.specs.declared.step.Step.{Step}
use Rattle.gql_objects.proofs.JobLemmas.{level_jobs}
use Rattle.gql_select.proofs.NestLemmas.{collected_nest, every_both}
use Rattle.gql_objects.proofs.PathLemmas.{trail_some}
use Rattle.gql_collect.proofs.CollectedLemmas.{all_collected}
use Rattle.gql_collect.proofs.NestingLemmas.{both_within, groups_all}

-- what holds of all holds of each
pub every_at : {X : Type 0} (P : X → Type 0) (xs : List X) (k : ℕ) (x : X) → AllByRecursion P xs → slice_get xs k ≡ Some x → P x
every_at P [] k x h is = absurd (cc)
every_at P (y ∷ xs) zero x h is = subst P (let e : y ≡ x = cc in e) h.0
every_at P (y ∷ xs) (suc k) x h is = every_at P xs k x h.1 is

pub every_flat : {X Y : Type 0} (P : Y → Type 0) (Q : X → Type 0) (f : X → List Y) → ((x : X) → Q x → AllByRecursion P (f x))
    → (xs : List X) → AllByRecursion Q xs
    → AllByRecursion P (flat_map f xs)
every_flat P Q f each [] h = tt
every_flat P Q f each (x ∷ xs) h = every_both P (f x) (flat_map f xs) (each x h.0) (every_flat P Q f each xs h.1)

pub every_of : {X : Type 0} (P : X → Type 0) → ((x : X) → P x) → (xs : List X) → AllByRecursion P xs
every_of P each [] = tt
every_of P each (x ∷ xs) = (each x, every_of P each xs)

module _ {V : Type 0} where
  -- what is known of fields holds of the tasks that they make
  module _ (P : Job V → Type 0) (Q : Positioned Field → Type 0) (basis : Basis) (spot : Spot V)
      (makes : (field : Positioned Field) (asking : Asking V) → Q field
      → P (record {
        basis = basis;
        object = spot.object;
        field = field;
        asking = asking;
        path = spot.path ++ segment.Field
            (key_text field) ∷ [];
      })) where
    job_one : (field : Positioned Field) (asking : Option (Asking V)) → Q field
        → AllByRecursion P (job_at basis spot.object (spot.path ++ segment.Field (key_text field) ∷ []) field asking)
    job_one field None q = tt
    job_one field (Some asking) q = (makes field asking q, tt)

    jobs_each : (root : Bool) (members : List (List ℕ × Positioned Field)) → AllByRecursion Q (values_of members)
        → AllByRecursion P (jobs_of_as root basis spot members)
    jobs_each root [] h = tt
    jobs_each root (m ∷ members) h =
        every_both P _ _ (job_one m.1 (field_asking root (execution_of basis) spot.object spot.parent m.1) h.0) (jobs_each root members h.1)

    -- as roots of a mutation or as others
    pub jobs_all_as : (root : Bool) (selections : List (Positioned Selection))
        → AllByRecursion Q (values_of (groups_in root basis spot.object selections))
        → AllByRecursion P (jobs_at_as root basis selections spot)
    jobs_all_as root selections h = jobs_each root (groups_in root basis spot.object selections) h

    pub jobs_all : (selections : List (Positioned Selection))
        → AllByRecursion Q (values_of (groups_in false basis spot.object selections))
        → AllByRecursion P (jobs_at basis selections spot)
    jobs_all selections h = jobs_all_as false selections h

  -- tasks of an object that isn't the root are deep
  pub deep_at : (basis : Basis) (selections : List (Positioned Selection)) (spot : Spot V) → 0 < length spot.path
      → AllByRecursion IsDeep (jobs_at basis selections spot)
  deep_at basis selections spot some =
      jobs_all IsDeep (λ field. Unit {0}) basis spot
      (λ field asking q. (let e = length-append spot.path (segment.Field (key_text field) ∷ []) in omega arith)) selections
      (every_of (λ field. Unit {0}) (λ field. tt) (values_of (groups_in false basis spot.object selections)))

  -- objects that were found aren't at the root
  pub found_below : (found : List (Found V)) → AreBelow (map spot_found found)
  found_below [] = tt
  found_below (f ∷ found) = ((let e = long (steps_by f.trail) in let b = trail_some f.trail in omega arith), found_below found)
    where
      long : (steps : List Step) → length (path_of steps) ≡ length steps
      long [] = refl
      long (s ∷ steps) = ap suc (long steps)

  -- the tasks under an answer are deep, where its objects aren't at the root
  pub deep_spots : (job : Job V) (answer : Answer V) → AreBelow (spots (completed_by job answer) job.path)
      → AllByRecursion IsDeep (jobs_beneath job answer)
  deep_spots job answer below =
      every_flat IsDeep (λ (spot : Spot V). 0 < length spot.path) (jobs_at job.basis (own_selections job.field))
      (λ spot some. deep_at job.basis (own_selections job.field) spot some) (spots (completed_by job answer) job.path) below

  -- a task whose set is within so many levels, on this basis
  pub record IsBelow (basis : Basis) (n : ℕ) (job : Job V) : Type 0 where
    pub basis_is : job.basis ≡ basis
    pub within : IsWithin (setting_by basis) n (own_selections job.field)

  pub below_at : (basis : Basis) (n : ℕ) (selections : List (Positioned Selection)) (spot : Spot V)
      → IsWithin (setting_by basis) (suc n) selections
      → AllByRecursion (IsBelow basis n) (jobs_at basis selections spot)
  below_at basis n selections spot within =
      jobs_all (IsBelow basis n) (λ field. IsWithin (setting_by basis) n (own_selections field)) basis spot
      (λ field asking q. record { basis_is = refl; within = q }) selections
      (groups_all (λ field. IsWithin (setting_by basis) n (own_selections field)) (λ f g h k. both_within (setting_by basis) n f g h k)
      basis.grouping (setting_by basis) (collected basis.grouping basis spot.object selections)
      (all_collected basis.grouping basis spot.object (λ field. IsWithin (setting_by basis) n (own_selections field)) selections (within spot.object)))

  pub below_all : (basis : Basis) (n : ℕ) (selections : List (Positioned Selection)) (ss : List (Spot V))
      → IsWithin (setting_by basis) (suc n) selections
      → AllByRecursion (IsBelow basis n) (flat_map (jobs_at basis selections) ss)
  below_all basis n selections ss within =
      every_flat (IsBelow basis n) (λ spot. Unit {0}) (jobs_at basis selections) (λ spot h. below_at basis n selections spot within) ss
      (every_of (λ spot. Unit {0}) (λ spot. tt) ss)

-- the fields of an object under a field nest
pub fields_nest : (node : Node) (object : List ℕ)
    → AllNest node.basis.env.now (collected node.basis.grouping node.basis object (own_selections (united node.group)))
fields_nest node object =
    all_collected node.basis.grouping node.basis object (λ field. NestsIn node.basis.env.now (field_set field)) (own_selections (united node.group))
    (collected_nest (setting_by node.basis) object (levels_of node.basis.env.now) (setting_by node.basis).levels
    (field_set (united node.group)) node.nests)

-- no level is kept at first
pub none_beneath : (node : Node) → AreBeneath node []
none_beneath node = record { each = λ object level is. absurd (cc) }

module _ {T : Type 0} (name sought : List ℕ) (x : T) (P : Option T → Type 0) (now : bytes_eq sought name ≡ true → P (Some x)) where
  put_here : (p : List ℕ × T) (ps : List (List ℕ × T)) → name ≡ p.0 → P (under sought (p ∷ ps)) → P (under sought ((p.0, x) ∷ ps))
  put_here p ps same before =
      (elim (bytes_eq sought p.0) as (λ c. (c ≡ true → P (Some x)) → P (cond c (Some p.1) (under sought ps))
      → P (cond c (Some x) (under sought ps))) [
        | true ↦ λ h k. h refl
        | false ↦ λ h k. k
      ]) (λ t. now (ap (bytes_eq sought) same ∙ t)) before

  put_later : (p : List ℕ × T) (ps qs : List (List ℕ × T)) → (P (under sought ps) → P (under sought qs)) → P (under sought (p ∷ ps))
      → P (under sought (p ∷ qs))
  put_later p ps qs rest before =
      (elim (bytes_eq sought p.0) as (λ c. P (cond c (Some p.1) (under sought ps)) → P (cond c (Some p.1) (under sought qs))) [
        | true ↦ λ k. k
        | false ↦ λ k. rest k
      ]) before

  put_one : (b : Bool) (p : List ℕ × T) (ps qs : List (List ℕ × T)) → bytes_eq name p.0 ≡ b → (P (under sought ps) → P (under sought qs))
      → P (under sought (p ∷ ps))
      → P (under sought (cond b ((p.0, x) ∷ ps) (p ∷ qs)))
  put_one true p ps qs is rest before = put_here p ps ((bytes_decides name p.0).0 is) before
  put_one false p ps qs is rest before = put_later p ps qs rest before

  under_put : (ps : List (List ℕ × T)) → P (under sought ps) → P (under sought (put ps name x))
  under_put [] before = (elim (bytes_eq sought name) as (λ b. (b ≡ true → P (Some x)) → P (cond b (Some x) None))
      [ true ↦ λ h. h refl | false ↦ λ h. before ]) now
  under_put (p ∷ ps) before = put_one (bytes_eq name p.0) p ps (put ps name x) refl (under_put ps) before

-- one more level is kept
pub more_beneath : (node : Node) (levels : List (List ℕ × Rc Level Global)) (object : List ℕ) (level : Rc Level Global)
    → AreBeneath node levels → IsBeneath node object level.value
    → AreBeneath node (put levels object level)
more_beneath node levels object level before here = record {
  each = λ sought found is.
      under_put object sought level (λ o. option_map level_behind o ≡ Some found → IsBeneath node sought found)
      (λ same is. subst (λ l. IsBeneath node sought l) (let e : level.value ≡ found = cc in e)
      (subst (λ o. IsBeneath node o level.value) (sym ((bytes_decides sought object).0 same)) here))
      levels (before.each sought found) is;
}

-- the level that is kept under a name
pub known_beneath : (node : Node) (levels : List (List ℕ × Rc Level Global)) (object : List ℕ) (known : Option (Rc Level Global))
    (level : Rc Level Global)
    → AreBeneath node levels → option_map level_behind known ≡ option_map level_behind (under object levels) → known ≡ Some level
    → IsBeneath node object level.value
known_beneath node levels object known level are same is =
    are.each object level.value (sym same ∙ ap (option_map level_behind) is)

module _ {V : Type 0} (at : Spot V → Standing V) where
  -- one more object has its fields
  pub parents_more : (parents parents' : List (Rc (Parent V) Global)) (parent : Rc (Parent V) Global) (its rest : List (Found V))
      (found : Found V) (all : List (Standing V))
      → its ≡ found ∷ rest → parents' ≡ parents ++ parent ∷ [] → standing_behind parent ≡ at (spot_found found)
      → map standing_behind parents ++ map at (map spot_found its) ≡ all
      → map standing_behind parents' ++ map at (map spot_found rest) ≡ all
  parents_more parents parents' parent its rest found all is added stands before =
      let others = map at (map spot_found rest) in
      ap (λ ps. map standing_behind ps ++ others) added
      ∙ ap (λ ss. ss ++ others) (map-append standing_behind parents (parent ∷ []))
      ∙ append_assoc (map standing_behind parents) (standing_behind parent ∷ []) others
      ∙ ap (λ s. map standing_behind parents ++ s ∷ others) stands
      ∙ ap (λ fs. map standing_behind parents ++ map at (map spot_found fs)) (sym is)
      ∙ before

  -- one more object has its tasks
  pub placed_more : (jobs jobs' all : List (Job V)) (parent : Rc (Parent V) Global) (its rest : List (Found V)) (found : Found V)
      → its ≡ found ∷ rest → jobs' ≡ jobs ++ jobs_here parent.value → jobs_here parent.value ≡ jobs_of_standing (standing_behind parent)
      → standing_behind parent ≡ at (spot_found found)
      → jobs ++ flat_map jobs_of_standing (map at (map spot_found its)) ≡ all
      → jobs' ++ flat_map jobs_of_standing (map at (map spot_found rest)) ≡ all
  placed_more jobs jobs' all parent its rest found is added own stands before =
      let others = flat_map jobs_of_standing (map at (map spot_found rest)) in
      ap (λ js. js ++ others) (added ∙ ap (λ js. jobs ++ js) own)
      ∙ append_assoc jobs (jobs_of_standing (standing_behind parent)) others
      ∙ ap (λ s. jobs ++ (jobs_of_standing s ++ others)) stands
      ∙ ap (λ fs. jobs ++ flat_map jobs_of_standing (map at (map spot_found fs))) (sym is)
      ∙ before

-- the tasks of objects are those of the definition
pub placed_jobs : {V : Type 0} (basis : Basis) (selections : List (Positioned Selection)) (ss : List (Spot V))
    → flat_map jobs_of_standing (map (standing_at basis selections) ss) ≡ flat_map (jobs_at basis selections) ss
placed_jobs basis selections [] = refl
placed_jobs basis selections (s ∷ ss) = λ i. level_jobs basis s selections i ++ placed_jobs basis selections ss i
