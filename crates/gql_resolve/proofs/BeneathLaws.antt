-- A field of a name is found under another exactly where one stands in its set.
use Rattle.std.proofs.Common.{◌≡◌, ℕ, zero, suc, ◌+◌, ◌<◌, ◌⊎◌, ◌↔◌, inl, inr, Bool, true, false, cond, List, [], ◌∷◌, ◌++◌, length, map, filter, Option, Some, None, refl, ap, sym, subst, ◌∙◌, arith}
use Rattle.std.proofs.lemmas.List.{append-nil, map-append, length-append}
use Rattle.std.proofs.lemmas.List.Elements.{filter-append}
use Rattle.std.specs.Cmp.Lexicographic.{bytes_decides}
use Rattle.std.specs.List.{Contains, flat_map}
use Rattle.std.specs.Option.{option_map}
use Rattle.std.specs.Prelude.{option_and_then}
use Rattle.std.specs.Str.{bytes_eq}
use Rattle.gql_base.specs.Pairs.{under}
use Rattle.gql_doc.specs.Depth.{deep_from, fragment_set, selections_of, set_beneath, set_under}
use Rattle.gql_doc.specs.declared.document.Field.{Field, out-Field}
use Rattle.gql_doc.specs.declared.document.FragmentDefinition.{FragmentDefinition}
use Rattle.gql_doc.specs.declared.document.FragmentSpread.{FragmentSpread}
use Rattle.gql_doc.specs.declared.document.InlineFragment.{InlineFragment, out-InlineFragment}
use Rattle.gql_doc.specs.declared.document.Positioned.{Positioned}
use Rattle.gql_doc.specs.declared.document.Selection.{Selection, out-Selection}
use Rattle.gql_doc.specs.declared.document.Selection.TheOpen.{Selection-F}
use Rattle.gql_doc.specs.declared.document.SelectionSet.{SelectionSet}
use Rattle.gql_doc.proofs.DepthLaws.{first_at}
use Rattle.gql_request.specs.QueryEnv.{NestsIn, levels_of}
use Rattle.gql_request.specs.declared.query_env.QueryEnv.{QueryEnv}
use Rattle.gql_select.specs.Collected.{collect_within, fields_of, fields_of_spread}
use Rattle.gql_resolve.specs.Beneath.{Seen, Stands, as_field, by_spread, fields_beneath, fields_within, in_place, in_query, name_of, named, selections_in, setting_of}
use Rattle.gql_resolve.specs.Nesting.{RestNests}
use Rattle.gql_resolve.proofs.NestingLemmas.{set_nests}
use Rattle.gql_resolve.proofs.StepLemmas.{inline_fields}

-- one of two lists has an item where both together have one
one_of_both : {A : Type 0} (xs ys : List A) → 0 < length (xs ++ ys) → (0 < length xs) ⊎ (0 < length ys)
one_of_both [] ys some = inr some
one_of_both (x ∷ xs) ys some = inl (omega arith)

module _ (env : QueryEnv) (name : List ℕ) where
  -- the fields of the name among some
  abbrev hits : List (Positioned Field) → List Seen
  hits fields = named name (map (in_query env) fields)

  abbrev here : ℕ → Selection-F Selection Field InlineFragment SelectionSet → List (Positioned Field)
  here left selection = fields_of (setting_of env) [] (collect_within (setting_of env) left []) selection

  abbrev all : ℕ → List (Positioned Selection) → List (Positioned Field)
  all left selections = flat_map (λ selection. here left (out-Selection selection.node)) selections

  hits_both : (xs ys : List (Positioned Field)) → hits (xs ++ ys) ≡ hits xs ++ hits ys
  hits_both xs ys =
      ap (named name) (map-append (in_query env) xs ys)
      ∙ filter-append (λ (seen : Seen). bytes_eq (name_of seen.field) name) (map (in_query env) xs) (map (in_query env) ys)

  one_hit : (field : Positioned Field) → name_of field.node ≡ name → 0 < length (hits (field ∷ []))
  one_hit field is =
      let same : bytes_eq (name_of field.node) name ≡ true = (bytes_decides (name_of field.node) name).1 is in
      rw same (omega arith)

  hit_is : (field : Positioned Field) → 0 < length (hits (field ∷ [])) → name_of field.node ≡ name
  hit_is field some = by (bytes_eq (name_of field.node) name) (λ so. (bytes_decides (name_of field.node) name).0 so) some
    where
      by : (b : Bool) → (b ≡ true → name_of field.node ≡ name) → 0 < length (cond b (in_query env field ∷ []) []) → name_of field.node ≡ name
      by true is h = is refl
      by false is h = absurd (omega arith)

  -- what is to be shown of the sets one level deeper
  abbrev Finds : ℕ → Type 0
  Finds left = (selections : List (Positioned Selection)) → 0 < length (named name (fields_within env left selections)) → Stands env.fragments name selections

  module _ (left : ℕ) (deeper : Finds left) (whole : List (Positioned Selection)) (selection : Positioned Selection) (stands : Contains whole selection) where
    by_known : (spread : Positioned FragmentSpread) → out-Selection selection.node ≡ Selection-F.FragmentSpread spread → (o : Option (Positioned FragmentDefinition))
        → under spread.node.fragment_name.node env.fragments ≡ o
        → 0 < length (hits (fields_of_spread (setting_of env) [] (collect_within (setting_of env) left []) o)) → Stands env.fragments name whole
    by_known spread is None found h = absurd (omega arith)
    by_known spread is (Some fragment) found h = by_spread whole selection spread fragment stands is found (deeper (selections_of (fragment_set fragment)) h)

    by_layer : (o : Selection-F Selection Field InlineFragment SelectionSet) → out-Selection selection.node ≡ o → 0 < length (hits (here left o))
        → Stands env.fragments name whole
    by_layer (Selection-F.Field field) is h = as_field whole selection field stands is (hit_is field h)
    by_layer (Selection-F.InlineFragment fragment) is h =
        in_place whole selection fragment stands is
        (deeper (selections_of (out-InlineFragment fragment.node).selection_set)
        (subst (λ (fs : List (Positioned Field)). 0 < length (hits fs))
        (inline_fields env left (out-InlineFragment fragment.node).type_condition (selections_of (out-InlineFragment fragment.node).selection_set)) h))
    by_layer (Selection-F.FragmentSpread spread) is h = by_known spread is (under spread.node.fragment_name.node env.fragments) refl h

  by_selections : (left : ℕ) → Finds left → (whole xs : List (Positioned Selection)) → ((s : Positioned Selection) → Contains xs s → Contains whole s)
      → 0 < length (hits (all left xs)) → Stands env.fragments name whole
  by_selections left deeper whole [] stand h = absurd (omega arith)
  by_selections left deeper whole (x ∷ xs) stand h =
      let both = one_of_both (hits (here left (out-Selection x.node))) (hits (all left xs))
      (subst (λ (ys : List Seen). 0 < length ys) (hits_both (here left (out-Selection x.node)) (all left xs)) h) in
      elim both [
        | inl now ↦ by_layer left deeper whole x (stand x (zero, omega arith, refl)) (out-Selection x.node) refl now
        | inr later ↦ by_selections left deeper whole xs (λ s c. stand s (suc c.0, omega (arith, c.1), c.2)) later
      ]

  found_stands : (left : ℕ) → Finds left
  found_stands zero = λ selections some. absurd (omega arith)
  found_stands (suc left) = λ selections some. by_selections left (found_stands left) selections selections (λ s c. c) some

  -- what a selection among others stands for
  one_stands : (left : ℕ) (selections : List (Positioned Selection)) (selection : Positioned Selection) → Contains selections selection
      → 0 < length (hits (here left (out-Selection selection.node))) → 0 < length (hits (all left selections))
  one_stands left [] selection (k, below, is) some = absurd (omega arith)
  one_stands left (x ∷ xs) selection (zero, below, is) some =
      let at : 0 < length (hits (here left (out-Selection x.node))) = subst (λ (s : Positioned Selection). 0 < length (hits (here left (out-Selection s.node)))) (sym is) some in
      let long : length (hits (here left (out-Selection x.node) ++ all left xs)) ≡ length (hits (here left (out-Selection x.node))) + length (hits (all left xs))
      = ap (λ (ys : List Seen). length ys) (hits_both (here left (out-Selection x.node)) (all left xs)) ∙ length-append (hits (here left (out-Selection x.node))) (hits (all left xs)) in
      omega (arith, at, long)
  one_stands left (x ∷ xs) selection (suc k, below, is) some =
      let at : 0 < length (hits (all left xs)) = one_stands left xs selection (k, omega arith, is) some in
      let long : length (hits (here left (out-Selection x.node) ++ all left xs)) ≡ length (hits (here left (out-Selection x.node))) + length (hits (all left xs))
      = ap (λ (ys : List Seen). length ys) (hits_both (here left (out-Selection x.node)) (all left xs)) ∙ length-append (hits (here left (out-Selection x.node))) (hits (all left xs)) in
      omega (arith, at, long)

  -- what a selection leads to nests within one level less
  led_nests : (left : ℕ) (selections : List (Positioned Selection)) (selection : Positioned Selection) (set : Positioned SelectionSet)
      → RestNests env.fragments (suc left) selections → Contains selections selection → set_beneath env.fragments selection ≡ Some set
      → RestNests env.fragments left (selections_of set)
  led_nests left selections selection set nests stands leads =
      let at = first_at (λ selection. option_and_then (deep_from env.fragments left) (set_beneath env.fragments selection)) selections selection nests stands in
      set_nests env.fragments left set (subst (λ o. option_and_then (deep_from env.fragments left) o ≡ None) leads at)

  stands_found : (selections : List (Positioned Selection)) → Stands env.fragments name selections → (left : ℕ) → RestNests env.fragments left selections
      → 0 < length (named name (fields_within env left selections))
  stands_found selections stands zero nests = cc
  stands_found selections (as_field _ selection field stands is same) (suc left) nests =
      one_stands left selections selection stands
      (subst (λ o. 0 < length (hits (here left o))) (sym is) (one_hit field same))
  stands_found selections (in_place _ selection fragment stands is inner) (suc left) nests =
      let set = (out-InlineFragment fragment.node).selection_set in
      let found = stands_found (selections_of set) inner left (led_nests left selections selection set nests stands (ap (set_under env.fragments) is)) in
      one_stands left selections selection stands
      (subst (λ o. 0 < length (hits (here left o))) (sym is)
      (subst (λ (fs : List (Positioned Field)). 0 < length (hits fs)) (sym (inline_fields env left (out-InlineFragment fragment.node).type_condition (selections_of set))) found))
  stands_found selections (by_spread _ selection spread fragment stands is known inner) (suc left) nests =
      let set = fragment_set fragment in
      let leads : set_beneath env.fragments selection ≡ Some set = ap (set_under env.fragments) is ∙ ap (option_map fragment_set) known in
      let found = stands_found (selections_of set) inner left (led_nests left selections selection set nests stands leads) in
      one_stands left selections selection stands
      (subst (λ o. 0 < length (hits (here left o))) (sym is)
      (subst (λ o. 0 < length (hits (fields_of_spread (setting_of env) [] (collect_within (setting_of env) left []) o))) (sym known) found))

-- a field of a name is found under another exactly where one stands in its set
pub found_where_it_stands : (env : QueryEnv) (field : Field) (name : List ℕ) → NestsIn env (out-Field field).selection_set
    → ((0 < length (named name (fields_beneath (record { field = field; env = env })))) ↔ Stands env.fragments name (selections_in field))
found_where_it_stands env field name nests = (
  found_stands env name (levels_of env) (selections_in field),
  (λ stands. stands_found env name (selections_in field) stands (levels_of env) (set_nests env.fragments (levels_of env) (out-Field field).selection_set nests)),
)

-- the same of a list of that field alone
pub found_of_one : (env : QueryEnv) (field : Field) (name : List ℕ) (fields : List Seen) → NestsIn env (out-Field field).selection_set
    → fields ≡ record { field = field; env = env } ∷ []
    → ((0 < length (flat_map (λ seen. named name (fields_beneath seen)) fields)) ↔ Stands env.fragments name (selections_in field))
found_of_one env field name fields nests is =
    subst (λ (ys : List Seen). (0 < length ys) ↔ Stands env.fragments name (selections_in field))
    (sym (ap (flat_map (λ seen. named name (fields_beneath seen))) is ∙ append-nil (named name (fields_beneath (record { field = field; env = env })))))
    (found_where_it_stands env field name nests)
