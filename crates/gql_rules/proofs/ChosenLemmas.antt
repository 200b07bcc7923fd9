-- The operation that is chosen, read and not taken.
use Rattle.std.proofs.Common.{arith, ◌≡◌, ◌≢◌, ℕ, List, [], ◌∷◌, Option, Some, None, length, slice_get, refl, ap, sym}
use Rattle.std.specs.Option.{option_map}
use Rattle.gql_doc.specs.declared.document.OperationDefinition.{OperationDefinition}
use Rattle.gql_doc.specs.declared.document.Positioned.{Positioned}
use Rattle.gql_rules.specs.ChosenOperation.{named, only, operation_of}

-- the only one of some operations, read and not taken
pub only_one : (operations : List (List ℕ × Positioned OperationDefinition)) (one : List ℕ × Positioned OperationDefinition)
    → length operations ≡ 1 → slice_get operations 0 ≡ Some one → Some one.1 ≡ option_map operation_of (only operations)
only_one [] one long at = absurd (omega arith)
only_one (p ∷ []) one long at = let same : p ≡ one = cc in ap (λ q. Some q.1) (sym same)
only_one (p ∷ (q ∷ ps)) one long at = absurd (omega arith)

pub only_none : (operations : List (List ℕ × Positioned OperationDefinition)) → length operations ≢ 1
    → None ≡ option_map operation_of (only operations)
only_none [] other = refl
only_none (p ∷ []) other = absurd (other refl)
only_none (p ∷ (q ∷ ps)) other = refl

pub ruleset only_or_none = (only_one, only_none)

-- the operation of a name
pub operation_named : (name : List ℕ) (found : Option (Positioned OperationDefinition))
    → found ≡ option_map operation_of (option_map (named name) found)
operation_named name None = refl
operation_named name (Some operation) = refl
