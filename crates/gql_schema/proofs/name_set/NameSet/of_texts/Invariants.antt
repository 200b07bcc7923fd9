use Rattle.std.proofs.Common.{◌≡◌, []}
use Rattle.std.specs.Vec.Iter.{into_iter_items}
use Rattle.gql_schema.specs.NameSet.{with_names}
use Rattle.gql_schema.proofs.name_set.NameSet.of_texts.Given as goal

abbrev pub invariant-loop-text : goal.invariant-loop-text
invariant-loop-text l = with_names l.set (into_iter_items l.text-iterator) ≡ with_names [] l.fn.texts
