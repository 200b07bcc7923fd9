-- Of operations that define their variables alike the same is told.
use Rattle.std.proofs.Common.{◌≡◌, ℕ, ◌+◌, ◌<◌, ◌≤◌, take, get_or, length, Bool, true, false, cond, not, ◌&&◌, ◌||◌, List, [], ◌∷◌, ◌++◌, Option, Some, None, refl, ap, sym, subst, ◌∙◌}
use Rattle.std.proofs.lemmas.List.{take_all, take_more}
use Rattle.std.specs.Prelude.{find}
use Rattle.std.specs.List.{flat_map}
use Rattle.std.specs.Option.{option_map}
use Rattle.std.specs.Str.{bytes_eq}
use Rattle.gql_base.specs.Pairs.{under}
use Rattle.gql_base.specs.TypeRef.{is_nullable}
use Rattle.gql_doc.specs.declared.document.Argument.{Argument}
use Rattle.gql_doc.specs.declared.document.DocValue.TheOpen.{DocValue-F}
use Rattle.gql_doc.specs.declared.document.DocValue.TheFolds.{fold-DocValue}
use Rattle.gql_doc.specs.declared.document.Positioned.{Positioned}
use Rattle.gql_doc.specs.declared.document.VariableDefinition.{VariableDefinition}
use Rattle.gql_request.specs.Defined.{defined_name, first_definition}
use Rattle.gql_schema.specs.Fits.{is_input_type, nullable_of}
use Rattle.gql_schema.specs.TableReading.{Declared}
use Rattle.gql_schema.specs.declared.input_value.InputValue.{InputValue}
use Rattle.gql_fields.specs.Arguments.{argument_name}
use Rattle.gql_fields.specs.Breach.{unless}
use Rattle.gql_fields.specs.Breaches.{is_condition}
use Rattle.gql_fields.specs.FieldTypes.{known_field}
use Rattle.gql_fields.specs.Places.{OnCondition, OnDirective, OnField, OnSpread, Place}
use Rattle.gql_fields.specs.Terms.{Terms}
use Rattle.gql_fields.specs.declared.built_in_arguments.BuiltIn.{BuiltIn}
use Rattle.gql_rules.specs.AlikeOperations.{AskAlike, FoundAlike, IsAlike}
use Rattle.gql_rules.specs.VariableUses.{TellsIn, ValuePlace, compatible, declared_place, fits_place, misplaced_variable, told_in_arguments, told_in_field, told_of_variable, uses_told_at, value_step}

abbrev Definition : Type 0
Definition = Positioned VariableDefinition

-- each list of definitions asks the same as itself
pub alike_itself : (definitions : List Definition) → AskAlike definitions definitions
alike_itself definitions = record { alike = λ name. itself (first_definition name definitions) }
  where
    itself : (o : Option Definition) → FoundAlike o o
    itself None = tt
    itself (Some one) = record { ty = refl; default = refl }

-- what is found once one more stands at the end
abbrev or_last : Option Definition → Option Definition → Option Definition
or_last None last = last
or_last (Some found) last = Some found

found_last : (p : Definition → Bool) (xs : List Definition) (x : Definition)
    → find p (xs ++ x ∷ []) ≡ or_last (find p xs) (cond (p x) (Some x) None)
found_last p [] x = refl
found_last p (y ∷ xs) x =
    let P : Bool → Type 0 = λ b. cond b (Some y) (find p (xs ++ x ∷ [])) ≡ or_last (cond b (Some y) (find p xs)) (cond (p x) (Some x) None)
    in
    elim (p y) as P [ true ↦ refl | false ↦ found_last p xs x ]

last_alike : (a b c d : Option Definition) → FoundAlike a b → FoundAlike c d → FoundAlike (or_last a c) (or_last b d)
last_alike None None c d first second = second
last_alike None (Some y) c d first second = absurd first
last_alike (Some x) None c d first second = absurd first
last_alike (Some x) (Some y) c d first second = first

one_alike : (p q : Bool) (x y : Definition) → p ≡ q → IsAlike x y → FoundAlike (cond p (Some x) None) (cond q (Some y) None)
one_alike true true x y same alike = alike
one_alike true false x y same alike = cc
one_alike false true x y same alike = cc
one_alike false false x y same alike = tt

-- one definition more in each
pub alike_more : (xs ys : List Definition) (x y : Definition) → AskAlike xs ys → defined_name x ≡ defined_name y → IsAlike x y
    → AskAlike (xs ++ x ∷ []) (ys ++ y ∷ [])
alike_more xs ys x y before same alike = record {
  alike = λ name.
      let test : bytes_eq (defined_name x) name ≡ bytes_eq (defined_name y) name = ap (λ n. bytes_eq n name) same in
      subst (λ o. FoundAlike o (first_definition name (ys ++ y ∷ []))) (sym (found_last (λ d. bytes_eq (defined_name d) name) xs x))
      (subst (λ o. FoundAlike (or_last (first_definition name xs) (cond (bytes_eq (defined_name x) name) (Some x) None)) o)
      (sym (found_last (λ d. bytes_eq (defined_name d) name) ys y))
      (last_alike (first_definition name xs) (first_definition name ys) _ _ (before.alike name) (one_alike _ _ x y test alike)));
}

pub alike_next : (one other : List Definition) (place : ℕ) (x y : Definition) → AskAlike (take place one) (take place other)
    → place < length one → place < length other
    → x ≡ get_or one place x → y ≡ get_or other place y → defined_name x ≡ defined_name y → IsAlike x y
    → AskAlike (take (place + 1) one) (take (place + 1) other)
alike_next one other place x y before inside within read also same alike =
    subst (λ xs. AskAlike xs (take (place + 1) other)) (sym (take_more one place x inside ∙ ap (λ z. take place one ++ z ∷ []) (sym read)))
    (subst (AskAlike (take place one ++ x ∷ [])) (sym (take_more other place y within ∙ ap (λ z. take place other ++ z ∷ []) (sym also)))
    (alike_more (take place one) (take place other) x y before same alike))

pub alike_whole : (one other : List Definition) (place : ℕ) → length one ≤ place → length other ≤ place
    → AskAlike (take place one) (take place other) → AskAlike one other
alike_whole one other place over past before =
    subst (λ xs. AskAlike xs other) (take_all place one over) (subst (AskAlike (take place one)) (take_all place other past) before)

module _ (built : BuiltIn) (terms : Terms) (one other : List Definition) (alike : AskAlike one other) where
  fits_alike : (x y : Definition) (place : Option ValuePlace) → IsAlike x y
      → fits_place terms.table x.node place ≡ fits_place terms.table y.node place
  fits_alike x y None same = refl
  fits_alike x y (Some place) same = λ i.
      is_input_type terms.table (same.ty i)
      && (compatible (same.ty i) place.ty
      || ((is_nullable (same.ty i) && (not (is_nullable place.ty) && (same.default i || place.has_default)))
      && compatible (same.ty i) (nullable_of place.ty)))

  told_alike : (argument : Argument) (name : List ℕ) (a b : Option Definition) (place : Option ValuePlace) → FoundAlike a b
      → told_of_variable terms.table argument name a place ≡ told_of_variable terms.table argument name b place
  told_alike argument name None None place same = refl
  told_alike argument name None (Some y) place same = absurd same
  told_alike argument name (Some x) None place same = absurd same
  told_alike argument name (Some x) (Some y) place same = ap (λ b. unless b (misplaced_variable argument name)) (fits_alike x y place same)

  step_alike : (argument : Argument) (value : DocValue-F TellsIn)
      → value_step terms.table one argument value ≡ value_step terms.table other argument value
  step_alike argument (DocValue-F.Variable name) = λ i place. told_alike argument name (first_definition name one)
      (first_definition name other) place (alike.alike name) i
  step_alike argument (DocValue-F.List items) = refl
  step_alike argument (DocValue-F.Object members) = refl
  step_alike argument DocValue-F.Null = refl
  step_alike argument (DocValue-F.Boolean b) = refl
  step_alike argument (DocValue-F.Number n) = refl
  step_alike argument (DocValue-F.String s) = refl
  step_alike argument (DocValue-F.Enum e) = refl

  arguments_alike : (declared : List (List ℕ × InputValue)) (arguments : List Argument)
      → told_in_arguments terms.table one declared arguments ≡ told_in_arguments terms.table other declared arguments
  arguments_alike declared arguments = λ i.
      flat_map
      (λ argument. fold-DocValue TellsIn (λ value. step_alike argument value i) argument.value.node
      (option_map declared_place (under (argument_name argument) declared)))
      arguments

  field_alike : (arguments : List Argument) (known : Option Declared)
      → told_in_field terms.table one arguments known ≡ told_in_field terms.table other arguments known
  field_alike arguments None = refl
  field_alike arguments (Some declared) = arguments_alike declared.arguments arguments

  -- so the same is told of each place
  pub uses_alike : (place : Place) → uses_told_at built terms one place ≡ uses_told_at built terms other place
  uses_alike (OnField field) = field_alike field.arguments (known_field built terms field.parent field.name)
  uses_alike (OnSpread pos name) = refl
  uses_alike (OnCondition pos name) = refl
  uses_alike (OnDirective selects directive) =
      ap (λ told. cond (selects && is_condition directive.node) told []) (arguments_alike built.condition directive.node.arguments)
