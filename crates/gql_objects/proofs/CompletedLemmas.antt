-- The objects of a completed answer, with their fields and tasks.
use Rattle.std.proofs.Common.{◌≡◌, List, [], ◌++◌, map, ap, subst, ◌∙◌}
use Rattle.std.specs.List.{flat_map}
use Rattle.gql_base.specs.declared.path_segment.PathSegment.{PathSegment}
use Rattle.gql_meaning.specs.Completion.{Completed}
use Rattle.gql_objects.specs.Jobs.{Job}
use Rattle.gql_objects.specs.Parents.{jobs_of_standing, spot_found, Standing}
use Rattle.gql_objects.specs.ListParents.{AreBelow}
use Rattle.gql_complete.specs.FoundObjects.{Spot, spots}
use Rattle.gql_objects.specs.declared.parent.Found.{Found}
use Rattle.gql_objects.proofs.ObjectLevelLemmas.{found_below}

-- objects that were found in a completed answer
module _ {V : Type 0} (made whole : Completed V) (path : List PathSegment) (start found : List (Found V)) (whole_is : made ≡ whole)
    (none : start ≡ [])
    (found_is : map spot_found found ≡ map spot_found start ++ spots made path) where
  found_spots : map spot_found found ≡ spots whole path
  found_spots = found_is ∙ ap (λ fs. map spot_found fs ++ spots made path) none ∙ ap (λ w. spots w path) whole_is

  pub completed_below : AreBelow (spots whole path)
  completed_below = subst AreBelow found_spots (found_below found)

  pub completed_parents : (at : Spot V → Standing V) (parents : List (Standing V)) → parents ≡ map at (map spot_found found)
      → parents ≡ map at (spots whole path)
  completed_parents at parents is = is ∙ ap (map at) found_spots

  pub completed_tasks : (at : Spot V → Standing V) (old new : List (Job V))
      → new ≡ old ++ flat_map jobs_of_standing (map at (map spot_found found))
      → new ≡ old ++ flat_map jobs_of_standing (map at (spots whole path))
  completed_tasks at old new is = is ∙ ap (λ ss. old ++ flat_map jobs_of_standing (map at ss)) found_spots
