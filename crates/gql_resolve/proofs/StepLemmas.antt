-- What one look at the selections that are left of a set comes to.
use Rattle.std.proofs.Common.{◌≡◌, ℕ, zero, suc, ◌+◌, ◌-◌, ◌<◌, List, [], ◌∷◌, ◌++◌, length, map, Option, Some, None, refl, ap, sym, subst, ◌∙◌, arith}
use Rattle.std.proofs.lemmas.List.{map-append, length-append}
use Rattle.std.specs.List.{flat_map}
use Rattle.gql_base.specs.Pairs.{under}
use Rattle.gql_doc.specs.Depth.{fragment_set, selections_of}
use Rattle.gql_doc.specs.declared.document.Field.{Field}
use Rattle.gql_doc.specs.declared.document.FragmentDefinition.{FragmentDefinition}
use Rattle.gql_doc.specs.declared.document.FragmentSpread.{FragmentSpread}
use Rattle.gql_doc.specs.declared.document.InlineFragment.{InlineFragment, out-InlineFragment}
use Rattle.gql_doc.specs.declared.document.Positioned.{Positioned}
use Rattle.gql_doc.specs.declared.document.Selection.{Selection, out-Selection}
use Rattle.gql_doc.specs.declared.document.Selection.TheOpen.{Selection-F}
use Rattle.gql_doc.specs.declared.document.SelectionSet.{SelectionSet}
use Rattle.gql_request.specs.declared.query_env.QueryEnv.{QueryEnv}
use Rattle.gql_select.specs.Collected.{collect_within, fields_of, fields_of_spread, fields_under}
use Rattle.gql_resolve.specs.Beneath.{fields_within, in_query, setting_of}
use Rattle.gql_resolve.specs.Nesting.{RestNests}
use Rattle.gql_resolve.specs.OpenSets.{Enters, Passes, steps_left, steps_of, steps_of_spread, steps_within, within}
use Rattle.gql_resolve.specs.SelectionField.{seen_of}
use Rattle.gql_resolve.specs.declared.open_set.OpenSet.{OpenSet}
use Rattle.gql_resolve.specs.declared.selection_field.SelectionField.{SelectionField}

module _ (env : QueryEnv) (left : ℕ) where
  -- what a selection stands for, with so many levels under it
  abbrev fields_here : Selection-F Selection Field InlineFragment SelectionSet → List (Positioned Field)
  fields_here selection = fields_of (setting_of env) [] (collect_within (setting_of env) left []) selection

  abbrev steps_here : Selection-F Selection Field InlineFragment SelectionSet → List (Unit {0})
  steps_here selection = steps_of env.fragments (steps_within env.fragments left) selection

  -- the first selection, and the others
  more_fields : (first : Positioned Selection) (rest : List (Positioned Selection)) (here : List (Positioned Field))
      → fields_here (out-Selection first.node) ≡ here
      → fields_within env (suc left) (first ∷ rest) ≡ map (in_query env) here ++ fields_within env (suc left) rest
  more_fields first rest here is =
      map-append (in_query env) (fields_of (setting_of env) [] (collect_within (setting_of env) left []) (out-Selection first.node)) (collect_within (setting_of env) (suc left) [] rest)
      ∙ ap (λ fs. map (in_query env) fs ++ fields_within env (suc left) rest) is

  more_steps : (first : Positioned Selection) (rest : List (Positioned Selection)) (here : List (Unit {0})) → steps_here (out-Selection first.node) ≡ here
      → length here + length (steps_within env.fragments (suc left) rest) < length (steps_within env.fragments (suc left) (first ∷ rest))
  more_steps first rest here is =
      let s = steps_of env.fragments (steps_within env.fragments left) (out-Selection first.node) in
      let r = flat_map (λ (selection : Positioned Selection). tt ∷ steps_of env.fragments (steps_within env.fragments left) (out-Selection selection.node)) rest in
      let long : length ((s ++ r) ++ tt ∷ []) ≡ (length s + length r) + 1 = length-append (s ++ r) (tt ∷ []) ∙ ap (λ (n : ℕ). n + 1) (length-append s r) in
      let short : length (r ++ tt ∷ []) ≡ length r + 1 = length-append r (tt ∷ []) in
      let same : length s ≡ length here = ap (λ (xs : List (Unit {0})). length xs) is in
      omega (arith, long, short, same)

-- a fragment in place has the fields of its set, whatever its condition
pub inline_fields : (env : QueryEnv) (left : ℕ) (condition : Option (Positioned (List ℕ))) (selections : List (Positioned Selection))
    → fields_under (setting_of env) [] (collect_within (setting_of env) left []) condition selections ≡ collect_within (setting_of env) left [] selections
inline_fields env left None selections = refl
inline_fields env left (Some condition) selections = refl

-- what is left of an open set, by its parts
within_is : (opened : OpenSet) (env : QueryEnv) (left : ℕ) (selections : List (Positioned Selection)) → opened.env.now ≡ env → opened.left ≡ left → opened.selections.now ≡ selections
    → within opened ≡ fields_within env left selections
within_is opened env left selections e l s = λ i. fields_within (e i) (l i) (s i)

steps_is : (opened : OpenSet) (env : QueryEnv) (left : ℕ) (selections : List (Positioned Selection)) → opened.env.now ≡ env → opened.left ≡ left → opened.selections.now ≡ selections
    → steps_left opened ≡ steps_within env.fragments left selections
steps_is opened env left selections e l s = λ i. steps_within (e i).fragments (l i) (s i)

module _ (env : QueryEnv) (left : ℕ) (first : Positioned Selection) (rest : List (Positioned Selection)) (nests : RestNests env.fragments left (first ∷ rest))
    (behind : OpenSet) (of_env : behind.env.now ≡ env) (of_left : behind.left ≡ left) (of_rest : behind.selections.now ≡ rest) where
  -- a field comes first
  pub given_first : (field : Positioned Field) (found : SelectionField) → out-Selection first.node ≡ Selection-F.Field field → (seen_of found).field ≡ field.node
      → (seen_of found).env ≡ env → fields_within env left (first ∷ rest) ≡ seen_of found ∷ within behind
  given_first field found is named asked = by left nests ∙ sym both
    where
      both : seen_of found ∷ within behind ≡ in_query env field ∷ fields_within env left rest
      both = λ i. record { field = named i; env = asked i } ∷ within_is behind env left rest of_env of_left of_rest i

      by : (n : ℕ) → RestNests env.fragments n (first ∷ rest) → fields_within env n (first ∷ rest) ≡ in_query env field ∷ fields_within env n rest
      by zero none = cc
      by (suc n) none = more_fields env n first rest (field ∷ []) (ap (fields_here env n) is)

  entered : (inner : OpenSet) (selections : List (Positioned Selection)) → inner.env.now ≡ env → inner.left ≡ left - 1 → inner.selections.now ≡ selections
      → ((n : ℕ) → fields_here env n (out-Selection first.node) ≡ collect_within (setting_of env) n [] selections)
      → ((n : ℕ) → steps_here env n (out-Selection first.node) ≡ steps_within env.fragments n selections)
      → Enters env left (first ∷ rest) inner behind
  entered inner selections e l s fields steps = record {
    fields = all_fields left nests ∙ sym both_fields;
    steps = subst (λ (n : ℕ). n < length (steps_within env.fragments left (first ∷ rest))) (sym both_steps) (all_steps left nests);
  }
    where
      both_fields : within inner ++ within behind ≡ fields_within env (left - 1) selections ++ fields_within env left rest
      both_fields = λ i. within_is inner env (left - 1) selections e l s i ++ within_is behind env left rest of_env of_left of_rest i

      both_steps : length (steps_left inner) + length (steps_left behind)
          ≡ length (steps_within env.fragments (left - 1) selections) + length (steps_within env.fragments left rest)
      both_steps = λ i. length (steps_is inner env (left - 1) selections e l s i) + length (steps_is behind env left rest of_env of_left of_rest i)

      all_fields : (n : ℕ) → RestNests env.fragments n (first ∷ rest)
          → fields_within env n (first ∷ rest) ≡ fields_within env (n - 1) selections ++ fields_within env n rest
      all_fields zero none = cc
      all_fields (suc n) none =
          let e : suc n - 1 ≡ n = omega arith in
          rw e (more_fields env n first rest (collect_within (setting_of env) n [] selections) (fields n))

      all_steps : (n : ℕ) → RestNests env.fragments n (first ∷ rest)
          → length (steps_within env.fragments (n - 1) selections) + length (steps_within env.fragments n rest) < length (steps_within env.fragments n (first ∷ rest))
      all_steps zero none = cc
      all_steps (suc n) none =
          let e : suc n - 1 ≡ n = omega arith in
          rw e (more_steps env n first rest (steps_within env.fragments n selections) (steps n))

  -- a fragment in place comes first
  pub inline_entered : (fragment : Positioned InlineFragment) (inner : OpenSet) → out-Selection first.node ≡ Selection-F.InlineFragment fragment → inner.env.now ≡ env
      → inner.left ≡ left - 1 → inner.selections.now ≡ selections_of (out-InlineFragment fragment.node).selection_set → Enters env left (first ∷ rest) inner behind
  inline_entered fragment inner is e l s =
      entered inner (selections_of (out-InlineFragment fragment.node).selection_set) e l s
      (λ n. ap (fields_here env n) is ∙ inline_fields env n (out-InlineFragment fragment.node).type_condition (selections_of (out-InlineFragment fragment.node).selection_set))
      (λ n. ap (steps_here env n) is)

  -- the spread of a fragment that there is comes first
  pub spread_entered : (spread : Positioned FragmentSpread) (fragment : Positioned FragmentDefinition) (inner : OpenSet) → out-Selection first.node ≡ Selection-F.FragmentSpread spread
      → under spread.node.fragment_name.node env.fragments ≡ Some fragment → inner.env.now ≡ env → inner.left ≡ left - 1
      → inner.selections.now ≡ selections_of (fragment_set fragment) → Enters env left (first ∷ rest) inner behind
  spread_entered spread fragment inner is found e l s =
      entered inner (selections_of (fragment_set fragment)) e l s
      (λ n. ap (fields_here env n) is ∙ ap (fields_of_spread (setting_of env) [] (collect_within (setting_of env) n [])) found)
      (λ n. ap (steps_here env n) is ∙ ap (steps_of_spread env.fragments (steps_within env.fragments n)) found)

  -- the spread of a fragment that there isn't comes first
  pub spread_passed : (spread : Positioned FragmentSpread) → out-Selection first.node ≡ Selection-F.FragmentSpread spread
      → under spread.node.fragment_name.node env.fragments ≡ None → Passes env left (first ∷ rest) behind
  spread_passed spread is none = record {
    fields = all_fields left nests ∙ sym (within_is behind env left rest of_env of_left of_rest);
    steps = subst (λ (n : ℕ). n < length (steps_within env.fragments left (first ∷ rest)))
        (sym (ap (λ (xs : List (Unit {0})). length xs) (steps_is behind env left rest of_env of_left of_rest))) (all_steps left nests);
  }
    where
      all_fields : (n : ℕ) → RestNests env.fragments n (first ∷ rest) → fields_within env n (first ∷ rest) ≡ fields_within env n rest
      all_fields zero nothing = cc
      all_fields (suc n) nothing = more_fields env n first rest []
          (ap (fields_here env n) is ∙ ap (fields_of_spread (setting_of env) [] (collect_within (setting_of env) n [])) none)

      all_steps : (n : ℕ) → RestNests env.fragments n (first ∷ rest)
          → length (steps_within env.fragments n rest) < length (steps_within env.fragments n (first ∷ rest))
      all_steps zero nothing = cc
      all_steps (suc n) nothing =
          let more = more_steps env n first rest [] (ap (steps_here env n) is ∙ ap (steps_of_spread env.fragments (steps_within env.fragments n)) none) in
          omega (arith, more)
