use Rattle.std.specs.Prelude.{◌≡◌, length}
use Rattle.gql_resolve.specs.OpenSets.{all_open, steps_left}
use Rattle.gql_resolve.specs.SelectionFields.{fields_left}
use Rattle.gql_resolve.proofs.selection_fields_iter.SelectionFieldsIter.next.Given as goal

abbrev pub invariant-loop-self : goal.invariant-loop-self
invariant-loop-self l = fields_left l.self ≡ fields_left l.fn.self

abbrev pub decreases-loop-self : goal.decreases-loop-self
decreases-loop-self l = length (all_open steps_left l.self.sets)
