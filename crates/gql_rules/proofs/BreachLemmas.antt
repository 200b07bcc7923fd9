-- What is told of all places is what the document breaks.
use Rattle.std.proofs.Common.{arith, ◌≡◌, ◌<◌, zero, suc, List, [], ◌∷◌, ◌++◌, map, length, Err, refl, ap, sym, subst, ◌∙◌, inl, inr}
use Rattle.std.specs.List.{Contains, flat_map}
use Rattle.std.proofs.lemmas.List.Elements.{Contains-append_cases, Contains-append_left, Contains-append_right}
use Rattle.gql_base.specs.declared.server_error.ServerError.{ServerError}
use Rattle.gql_doc.specs.Depth.{operations_in}
use Rattle.gql_doc.specs.declared.document.ExecutableDocument.{ExecutableDocument}
use Rattle.gql_fields.specs.Breaches.{told, told_at}
use Rattle.gql_fields.specs.BuiltIn.{built_in}
use Rattle.gql_fields.specs.Places.{Place, document_places}
use Rattle.gql_fields.specs.Terms.{Terms}
use Rattle.gql_fields.specs.Walk.{tells, terms_in}
use Rattle.gql_fields.specs.declared.breach.Breach.{Breach}
use Rattle.gql_fields.specs.declared.against.Against.{Against}
use Rattle.gql_rules.specs.Asked.{Asked}
use Rattle.gql_rules.specs.Adds.{Adds}
use Rattle.gql_rules.specs.FragmentCycles.{IsCircular}
use Rattle.gql_rules.specs.FieldMerging.{IsConflicting}
use Rattle.gql_fields.specs.BreachOrder.{Lists}
use Rattle.gql_rules.specs.VariableDefinitions.{told_of_variables}
use Rattle.gql_rules.specs.RulesChecked.{IsBreach, at_place, by_use, circular, conflicting, error_of, of_variable, refused_with}
use Rattle.gql_rules.specs.ReachedUses.{WrongUseIn}

pub none_in : {A : Type 0} (x : A) (G : Type 0) → Contains [] x → G
none_in x G (k, within, at) = absurd (omega arith)

pub one_in : {A : Type 0} (x y : A) → Contains (x ∷ []) y → x ≡ y
one_in x y (zero, within, at) = at
one_in x y (suc k, within, at) = absurd (omega arith)

pub first_in : {A : Type 0} (x : A) (xs : List A) → Contains (x ∷ xs) x
first_in x xs = (0, omega arith, refl)

pub later_in : {A : Type 0} (y x : A) (xs : List A) → Contains xs x → Contains (y ∷ xs) x
later_in y x xs at = Contains-append_right (y ∷ []) xs x at

module _ {A B : Type 0} (f : A → List B) where
  -- what some item gives
  pub record Given (xs : List A) (b : B) : Type 0 where
    pub item : A
    pub there : Contains xs item
    pub gives : Contains (f item) b

  pub given_from : (xs : List A) (b : B) → Contains (flat_map f xs) b → Given xs b
  given_from [] b at = none_in b (Given [] b) at
  given_from (x ∷ xs) b at =
      elim (Contains-append_cases (f x) (flat_map f xs) b at) [
        | inl h ↦ record { item = x; there = first_in x xs; gives = h }
        | inr h ↦
            let rest = given_from xs b h in
            record { item = rest.item; there = later_in x rest.item xs rest.there; gives = rest.gives }
      ]

  pub given_at : (xs : List A) (x : A) (b : B) → Contains xs x → Contains (f x) b → Contains (flat_map f xs) b
  given_at [] x b at gives = none_in x (Contains (flat_map f []) b) at
  given_at (y ∷ xs) x b at gives =
      elim (Contains-append_cases (y ∷ []) xs x at) [
        | inl here ↦ Contains-append_left (f y) (flat_map f xs) b (subst (λ z. Contains (f z) b) (sym (one_in y x here)) gives)
        | inr behind ↦ Contains-append_right (f y) (flat_map f xs) b (given_at xs x b behind gives)
      ]

-- what is told of all places, of definitions and uses of variables, of circular fragments and of conflicts, listed
pub all_listed : (against : Against) (asked : Asked) (document : ExecutableDocument) (told_first told_second used circled found list : List Breach)
    → Lists (Contains found) list → told_first ≡ [] ++ tells against (document_places (terms_in against) document)
    → told_second ≡ told_first ++ told_of_variables (terms_in against) asked document.operations
    → against.fragments.now ≡ document.fragments → against.built.now ≡ built_in → Adds (WrongUseIn (terms_in against) against.fragments.now (operations_in document.operations)) told_second used
    → Adds (IsCircular document.fragments) used circled → Adds (IsConflicting (terms_in against) document) circled found
    → Lists (IsBreach (terms_in against) asked document) list
all_listed against asked document told_first told_second used circled found list lists is then fragments built uses circles adds =
    record {
      in_order = lists.in_order;
      exact = λ e. (
        λ h.
            elim (adds.only e ((lists.exact e).0 h)) [
              | inl at ↦ elim (circles.only e at) [
                | inl earlier ↦ elim (uses.only e earlier) [
                  | inl told ↦ among_told e told
                  | inr wrong ↦ by_use (subst (λ fs. WrongUseIn (terms_in against) fs (operations_in document.operations) e) fragments wrong)
                ]
                | inr is_circular ↦ circular is_circular
              ]
              | inr conflict ↦ conflicting conflict
            ],
        λ breach. (lists.exact e).1 (among e breach),
      );
    }
  where
    terms : Terms
    terms = terms_in against

    places : List Place
    places = document_places terms document

    variables : List Breach
    variables = told_of_variables terms asked document.operations

    first : told_first ≡ told built_in terms document.fragments places
    first = is ∙ (λ i. told (built i) terms (fragments i) places)

    among_told : (e : Breach) → Contains told_second e → IsBreach terms asked document e
    among_told e at =
        elim (Contains-append_cases told_first variables e (subst (λ xs. Contains xs e) then at)) [
          | inl there ↦
              let from = given_from (told_at built_in terms document.fragments) places e (subst (λ xs. Contains xs e) first there) in
              at_place from.item from.there from.gives
          | inr there ↦ of_variable there
        ]

    among : (e : Breach) → IsBreach terms asked document e → Contains found e
    among e (at_place place stands breaks) =
        adds.kept e (circles.kept e (uses.kept e
        (subst (λ xs. Contains xs e) (sym then)
        (Contains-append_left told_first variables e
        (subst (λ xs. Contains xs e) (sym first) (given_at (told_at built_in terms document.fragments) places place e stands breaks))))))
    among e (of_variable breaks) =
        adds.kept e (circles.kept e (uses.kept e (subst (λ xs. Contains xs e) (sym then) (Contains-append_right told_first variables e breaks))))
    among e (by_use wrong) =
        adds.kept e (circles.kept e (uses.has e (subst (λ fs. WrongUseIn terms fs (operations_in document.operations) e) (sym fragments) wrong)))
    among e (circular is_circular) = adds.kept e (circles.has e is_circular)
    among e (conflicting conflict) = adds.has e conflict

-- a list that isn't empty is refused with the errors of all
pub some_refused : (breaches : List Breach) (errors : List ServerError) → errors ≡ map error_of breaches → 0 < length breaches
    → Err errors ≡ refused_with breaches
some_refused [] errors is some = absurd (omega arith)
some_refused (found ∷ others) errors is some = ap Err is
