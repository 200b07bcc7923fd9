-- Places that matter to the uses of variables.
use Rattle.std.proofs.Common.{◌≡◌, ℕ, Bool, true, false, ◌&&◌, not, cond, List, [], ◌∷◌, ◌++◌, Option, Some, None, refl, sym, ◌∙◌, append-nil}
use Rattle.std.specs.List.{flat_map}
use Rattle.std.specs.Option.{option_map}
use Rattle.std.proofs.lemmas.Grind.{flat_map-append}
use Rattle.gql_base.specs.Pairs.{under}
use Rattle.gql_doc.specs.declared.document.Argument.{Argument}
use Rattle.gql_doc.specs.declared.document.Positioned.{Positioned}
use Rattle.gql_doc.specs.declared.document.VariableDefinition.{VariableDefinition}
use Rattle.gql_schema.specs.TableReading.{Declared}
use Rattle.gql_schema.specs.declared.input_value.InputValue.{InputValue}
use Rattle.gql_fields.specs.Arguments.{argument_name}
use Rattle.gql_fields.specs.Breaches.{is_condition}
use Rattle.gql_fields.specs.FieldTypes.{known_field}
use Rattle.gql_fields.specs.Places.{OnCondition, OnDirective, OnField, OnSpread, Place}
use Rattle.gql_fields.specs.Terms.{Terms}
use Rattle.gql_fields.specs.declared.breach.Breach.{Breach}
use Rattle.gql_fields.specs.declared.built_in_arguments.BuiltIn.{BuiltIn}
use Rattle.gql_fields.specs.UsePlaces.{are_constant, is_constant, kept, kept_at, matters}
use Rattle.gql_rules.specs.ReachedUses.{spread_at, spreads_at}
use Rattle.gql_rules.specs.VariableUses.{ValuePlace, declared_place, told_in_arguments, told_in_field, uses_told, uses_told_at}
use Rattle.gql_rules.proofs.ConstantLemmas.{constant_silent}

-- places that don't matter add nothing
module _ {B : Type 0} (f : Place → List B) (silent : (place : Place) → matters place ≡ false → f place ≡ []) where
  at-one : (place : Place) → flat_map f (kept_at place) ≡ f place
  at-one place =
      let P : Bool → Type 0 = λ b. (matters place ≡ b) → flat_map f (cond b (place ∷ []) []) ≡ f place in
      (elim (matters place) as P [ true ↦ λ h. append-nil (f place) | false ↦ λ h. sym (silent place h) ]) refl

  of-kept : (places : List Place) → flat_map f (kept places) ≡ flat_map f places
  of-kept [] = refl
  of-kept (p ∷ ps) = flat_map-append f (kept_at p) (kept ps) ∙ (λ i. at-one p i ++ of-kept ps i)

both-so : (a b : Bool) → (a && b) ≡ true → (a ≡ true) × (b ≡ true)
both-so true b e = (refl, e)
both-so false b e = cc

so-constant : (b : Bool) → not b ≡ false → b ≡ true
so-constant true h = refl
so-constant false h = cc

module _ (built : BuiltIn) (terms : Terms) (definitions : List (Positioned VariableDefinition)) where
  arguments-silent : (declared : List (List ℕ × InputValue)) (arguments : List Argument) → are_constant arguments ≡ true
      → told_in_arguments terms.table definitions declared arguments ≡ []
  arguments-silent declared [] h = refl
  arguments-silent declared (a ∷ rest) h =
      let parts = both-so (is_constant a.value.node) (are_constant rest) h in
      let place : Option ValuePlace = option_map declared_place (under (argument_name a) declared) in
      λ i. constant_silent terms.table definitions a a.value.node parts.0 place i ++ arguments-silent declared rest parts.1 i

  field-silent : (arguments : List Argument) (known : Option Declared) → are_constant arguments ≡ true
      → told_in_field terms.table definitions arguments known ≡ []
  field-silent arguments None h = refl
  field-silent arguments (Some declared) h = arguments-silent declared.arguments arguments h

  use-silent : (place : Place) → matters place ≡ false → uses_told_at built terms definitions place ≡ []
  use-silent (OnField field) h =
      field-silent field.arguments (known_field built terms field.parent field.name) (so-constant (are_constant field.arguments) h)
  use-silent (OnSpread pos name) h = refl
  use-silent (OnCondition pos name) h = refl
  use-silent (OnDirective selects directive) h =
      let told : List Breach = told_in_arguments terms.table definitions built.condition directive.node.arguments in
      let P : Bool → Type 0 = λ b. (b && not (are_constant directive.node.arguments)) ≡ false → cond b told [] ≡ [] in
      (elim (selects && is_condition directive.node) as P [
        | true ↦ λ same. arguments-silent built.condition directive.node.arguments (so-constant (are_constant directive.node.arguments) same)
        | false ↦ λ same. refl
      ]) h

  pub uses_kept : (places : List Place) → uses_told built terms definitions (kept places) ≡ uses_told built terms definitions places
  uses_kept places = of-kept (uses_told_at built terms definitions) use-silent places

spread-silent : (names : List (List ℕ)) (place : Place) → matters place ≡ false → spread_at names place ≡ []
spread-silent names (OnSpread pos name) h = cc
spread-silent names (OnField field) h = refl
spread-silent names (OnCondition pos name) h = refl
spread-silent names (OnDirective selects directive) h = refl

pub spreads_kept : (names : List (List ℕ)) (places : List Place) → spreads_at names (kept places) ≡ spreads_at names places
spreads_kept names places = of-kept (spread_at names) (spread-silent names) places
