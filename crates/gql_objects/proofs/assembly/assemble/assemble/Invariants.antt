use Rattle.std.proofs.Common.{length}
use Rattle.gql_objects.proofs.AssemblyLemmas.{IsPart}
use Rattle.gql_objects.proofs.assembly.assemble.assemble.Given as goal

abbrev pub invariant-kept : goal.invariant-kept
invariant-kept g l = IsPart l.roots l.initial.kept.items l.initial.places.items l.kept.items l.places.items

abbrev pub decreases-kept : goal.decreases-kept
decreases-kept g l = length l.kept.items
