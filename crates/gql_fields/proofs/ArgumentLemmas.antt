-- What is told of arguments, by the names that were kept of those before.
use Rattle.std.proofs.Common.{◌≡◌, ℕ, ◌+◌, ◌||◌, not, List, [], ◌∷◌, ◌++◌, map, refl, ap, ◌∙◌, append_assoc}
use Rattle.std.specs.List.{flat_map}
use Rattle.gql_base.specs.Pairs.{under}
use Rattle.gql_doc.specs.declared.document.Argument.{Argument}
use Rattle.gql_schema.specs.TableReading.{TypeTable}
use Rattle.gql_schema.specs.declared.input_value.InputValue.{InputValue}
use Rattle.gql_fields.specs.Arguments.{Bearing, argument_name, doubled_argument, is_optional, missing_argument, told_of_argument, told_of_arguments, told_of_declared, told_of_given, told_of_missing}
use Rattle.gql_fields.specs.Breach.{unless}
use Rattle.gql_fields.specs.GivenNames.{AreNames}
use Rattle.gql_fields.specs.declared.breach.Breach.{Breach}

module _ (table : TypeTable) (bearing : Bearing) where
  -- what is told of an argument behind names that were kept
  pub told_kept : (names kept : List (List ℕ)) (argument : Argument) → AreNames names kept
      → told_of_argument table bearing kept argument ≡ told_of_argument table bearing names argument
  told_kept names kept argument are =
      ap (λ b. unless (not b) (doubled_argument argument) ++ told_of_declared table bearing.owner argument
      (under (argument_name argument) bearing.declared))
      (are.same (argument_name argument))

-- what is wanting, by the names that were kept
missing-kept : (bearing : Bearing) (names kept : List (List ℕ)) → AreNames names kept → (declared : List (List ℕ × InputValue))
    → flat_map (told_of_missing bearing kept) declared ≡ flat_map (told_of_missing bearing names) declared
missing-kept bearing names kept are [] = refl
missing-kept bearing names kept are (d ∷ ds) =
    λ i. unless (is_optional d.1 || are.same d.0 i) (missing_argument bearing d.0) ++ missing-kept bearing names kept are ds i

-- the arguments that are given, and then those that are wanting
pub arguments_told : (table : TypeTable) (bearing : Bearing) (arguments : List Argument) (kept : List (List ℕ))
    (start now more : List Breach)
    → AreNames (map argument_name arguments) kept → now ≡ start ++ told_of_given table bearing arguments
    → more ≡ now ++ flat_map (told_of_missing bearing kept) bearing.declared → more ≡ start ++ told_of_arguments table bearing arguments
arguments_told table bearing arguments kept start now more are first second =
    second ∙ (λ i. first i ++ missing-kept bearing (map argument_name arguments) kept are bearing.declared i)
    ∙ append_assoc start (told_of_given table bearing arguments)
    (flat_map (told_of_missing bearing (map argument_name arguments)) bearing.declared)
