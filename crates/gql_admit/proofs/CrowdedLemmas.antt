-- The walk that looks for fields with too many directives.
use Rattle.std.proofs.Common.{arith, rules, ◌≡◌, ℕ, zero, suc, ◌+◌, ◌-◌, ◌<◌, ◌≤◌, take, length, is_some, Bool, true, false, cond, List, Option, Some, None, Ok, Err, slice_get, slice_set, refl, ap, sym, ◌∙◌, subst, inl, inr}
use Rattle.std.proofs.lemmas.Bool.{le-ltb}
use Rattle.std.proofs.lemmas.List.{take_all}
use Rattle.std.specs.Prelude.{option_and_then, replicate}
use Rattle.std.specs.Option.{option_map, option_or}
use Rattle.gql_base.specs.Pairs.{values_of}
use Rattle.gql_base.specs.declared.pos.Pos.{Pos}
use Rattle.gql_base.specs.declared.server_error.ServerError.{ServerError}
use Rattle.gql_doc.specs.Depth.{Fragments, deep, deep_from, fragment_set, operation_set, operations_in, selections_of, set_beneath}
use Rattle.gql_doc.specs.declared.document.ExecutableDocument.{ExecutableDocument}
use Rattle.gql_doc.specs.declared.document.Field.{Field, out-Field}
use Rattle.gql_doc.specs.declared.document.FragmentDefinition.{FragmentDefinition}
use Rattle.gql_doc.specs.declared.document.FragmentSpread.{FragmentSpread}
use Rattle.gql_doc.specs.declared.document.InlineFragment.{InlineFragment}
use Rattle.gql_doc.specs.declared.document.Positioned.{Positioned}
use Rattle.gql_doc.specs.declared.document.Selection.{Selection, out-Selection, the_lemmas}
use Rattle.gql_doc.specs.declared.document.Selection.TheOpen.{Selection-F}
use Rattle.gql_doc.specs.declared.document.Selection.TheVariants as selections
use Rattle.gql_doc.specs.declared.document.SelectionSet.{SelectionSet}
use Rattle.gql_doc.proofs.DepthLaws.{deep_less}
use Rattle.gql_select.specs.Crowded.{crowded, crowded_from, crowded_here}
use Rattle.gql_rules.specs.Nesting.{NestsWithin}
use Rattle.gql_admit.specs.Limits.{crowded_error, directives_checked, refused_by}
use Rattle.gql_admit.specs.WalkedFragments.{Finds, IsClean, NestsBelow}
use Rattle.gql_lists.specs.First.{first_found}
use Rattle.gql_lists.proofs.FirstLemmas.{first_here, first_more, first_same}
use Rattle.gql_admit.proofs.WalkLemmas.{written_at}

-- a selection, by what it is
pub as_field : (selection : Selection) (field : Positioned Field) → selection ≡ selections.Field field
    → Selection-F.Field field ≡ out-Selection selection
as_field selection field is = rw is (search (rules, the_lemmas))

pub as_spread : (selection : Selection) (spread : Positioned FragmentSpread) → selection ≡ selections.FragmentSpread spread
    → Selection-F.FragmentSpread spread ≡ out-Selection selection
as_spread selection spread is = rw is (search (rules, the_lemmas))

pub as_inline : (selection : Selection) (inline : Positioned InlineFragment) → selection ≡ selections.InlineFragment inline
    → Selection-F.InlineFragment inline ≡ out-Selection selection
as_inline selection inline is = rw is (search (rules, the_lemmas))

-- what is found under a field that hasn't too many itself
pub under_found : (limit : ℕ) (field : Positioned Field) (under : Option (Positioned Field)) → length (out-Field field.node).directives ≤ limit
    → under ≡ option_or (crowded_here limit (Selection-F.Field field)) under
under_found limit field under most =
    sym (ap (λ t. option_or (cond t (Some field) None) under) (le-ltb limit (length (out-Field field.node).directives) most))

module _ (fragments : Fragments) where
  -- the set of the fragment at a place nests
  pub fragment_nests : (left place : ℕ) (fragment : Positioned FragmentDefinition) → slice_get (values_of fragments) place ≡ Some fragment
      → option_and_then (deep_from fragments left) (option_map fragment_set (slice_get (values_of fragments) place)) ≡ None
      → deep_from fragments left (fragment_set fragment) ≡ None
  fragment_nests left place fragment at nests =
      subst (λ o. option_and_then (deep_from fragments left) (option_map fragment_set o) ≡ None) at nests

  module _ (limit : ℕ) where
    beneath_same : (o : Option (Positioned SelectionSet)) (one other : ℕ)
        → ((inner : Positioned SelectionSet) → deep_from fragments one inner ≡ None → deep_from fragments other inner ≡ None
        → crowded_from fragments limit one inner ≡ crowded_from fragments limit other inner)
        → option_and_then (deep_from fragments one) o ≡ None → option_and_then (deep_from fragments other) o ≡ None
        → option_and_then (crowded_from fragments limit one) o ≡ option_and_then (crowded_from fragments limit other) o
    beneath_same None one other each nests also = refl
    beneath_same (Some inner) one other each nests also = each inner nests also

    -- in whichever levels a set nests, the same field is found
    pub crowded_same : (one other : ℕ) (set : Positioned SelectionSet) → deep_from fragments one set ≡ None
        → deep_from fragments other set ≡ None
        → crowded_from fragments limit one set ≡ crowded_from fragments limit other set
    crowded_same zero other set nests also = cc
    crowded_same (suc one) zero set nests also = cc
    crowded_same (suc one) (suc other) set nests also =
        first_same
        (λ selection. option_and_then (deep_from fragments one) (set_beneath fragments selection))
        (λ selection. option_and_then (deep_from fragments other) (set_beneath fragments selection))
        (λ selection.
        option_or (crowded_here limit (out-Selection selection.node))
        (option_and_then (crowded_from fragments limit one) (set_beneath fragments selection)))
        (λ selection.
        option_or (crowded_here limit (out-Selection selection.node))
        (option_and_then (crowded_from fragments limit other) (set_beneath fragments selection)))
        (λ selection none also_none.
        ap (option_or (crowded_here limit (out-Selection selection.node)))
        (beneath_same (set_beneath fragments selection) one other (crowded_same one other) none also_none))
        (selections_of set) nests also

    -- nothing was entered
    pub clean_none : (levels count : ℕ) (entered : List Bool) → entered ≡ replicate count false → IsClean fragments limit levels entered
    clean_none levels count entered is = rw is (record {
      none = λ place left fragment at there below nests. absurd (none_marked count place at);
    })
      where
        none_marked : (n place : ℕ) → slice_get (replicate n false) place ≡ Some true → ⊥
        none_marked zero place at = cc
        none_marked (suc n) zero at = cc
        none_marked (suc n) (suc place) at = none_marked n place at

    -- what nests in fewer levels nests in more
    below_more : (less more : ℕ) (fragment : Positioned FragmentDefinition) → less ≤ more → NestsBelow fragments less fragment
        → NestsBelow fragments more fragment
    below_more zero more fragment most nests = absurd nests
    below_more (suc less) zero fragment most nests = absurd (omega arith)
    below_more (suc less) (suc more) fragment most nests = deep_less fragments less more (fragment_set fragment) (omega arith) nests

    pub clean_less : (less more : ℕ) (entered : List Bool) → less ≤ more → IsClean fragments limit more entered
        → IsClean fragments limit less entered
    clean_less less more entered most clean = record {
      none = λ place left fragment at there below nests. clean.none place left fragment at there (below_more less more fragment most below)
          nests;
    }

    -- a walk through what nests in fewer levels than so many
    pub finds_up : (less more : ℕ) (old new : List Bool) (found sought : Option (Positioned Field)) → less ≤ more
        → IsClean fragments limit more old
        → Finds fragments limit less old new found sought → Finds fragments limit more old new found sought
    finds_up less more old new found sought most clean finds = record {
      is = finds.is;
      clean = λ none. record {
        none = λ place left fragment at there below nests.
            elim (finds.entered none place fragment at there) [
              | inl before ↦ clean.none place left fragment before there below nests
              | inr less_below ↦ (finds.clean none).none place left fragment at there less_below nests
            ];
      };
      entered = λ none place fragment at there.
          elim (finds.entered none place fragment at there) [
            | inl before ↦ inl before
            | inr below ↦ inr (below_more less more fragment most
                below)
          ];
    }

    -- where nothing is entered
    pub finds_still : (levels : ℕ) (entered : List Bool) (found sought : Option (Positioned Field))
        → IsClean fragments limit levels entered → found ≡ sought
        → Finds fragments limit levels entered entered found sought
    finds_still levels entered found sought clean is = record
        { is = is; clean = λ none. clean; entered = λ none place fragment at there. inl at }

    some_none : {A : Type 0} (x : A) → Some x ≡ None → ⊥
    some_none x e = cc

    -- what was found ends the walk
    pub finds_one : (levels : ℕ) (old new : List Bool) (field : Positioned Field) (sought : Option (Positioned Field)) → Some field ≡ sought
        → Finds fragments limit levels old new (Some field) sought
    finds_one levels old new field sought is = record {
      is = is;
      clean = λ none. absurd (some_none field none);
      entered = λ none. absurd (some_none field none);
    }

    -- one walk after another, of which the first finds nothing
    pub finds_then : (levels : ℕ) (old now new : List Bool) (found sought first : Option (Positioned Field))
        → Finds fragments limit levels old now None first
        → Finds fragments limit levels now new found sought → Finds fragments limit levels old new found sought
    finds_then levels old now new found sought first before then = record {
      is = then.is;
      clean = then.clean;
      entered = λ none place fragment at there.
          elim (then.entered none place fragment at there) [
            | inl was ↦ before.entered refl place fragment was there
            | inr below ↦ inr below
          ];
    }

    pub finds_same : (levels : ℕ) (old new : List Bool) (found sought other : Option (Positioned Field)) → sought ≡ other
        → Finds fragments limit levels old new found sought → Finds fragments limit levels old new found other
    finds_same levels old new found sought other same finds = record { is = finds.is ∙ same; clean = finds.clean; entered = finds.entered }

    -- a walk through items, of which each but the last finds nothing
    module _ {A : Type 0} (find : A → Option (Positioned Field)) (levels : ℕ) (old now : List Bool) (xs : List A) (i : ℕ)
        (before : Finds fragments limit levels old now None (first_found find (take i xs))) where
      pub finds_all : length xs ≤ i → Finds fragments limit levels old now None (first_found find xs)
      finds_all over = finds_same levels old now None _ _ (ap (first_found find) (take_all i xs over)) before

      module _ (new : List Bool) (x : A) (found : Option (Positioned Field)) (there : Bool) (at : slice_get xs i ≡ Some x)
          (here : Finds fragments limit levels now new found (find x)) (test : there ≡ is_some found) where
        pub finds_next : there ≡ false → Finds fragments limit levels old new None (first_found find (take (i + 1) xs))
        finds_next so =
            let none : found ≡ None = nothing found (sym test ∙ so) in
            finds_same levels old new None None _ (sym (first_more find xs i x found there (sym before.is) at here.is test so))
            (finds_same levels old new None _ None (sym (subst (λ o. o ≡ find x) none here.is))
            (finds_then levels old now new None (find x) _ before (subst (λ o. Finds fragments limit levels now new o (find x)) none here)))
          where
            nothing : (o : Option (Positioned Field)) → is_some o ≡ false → o ≡ None
            nothing None h = refl
            nothing (Some field) h = cc

        pub finds_hit : there ≡ true → Finds fragments limit levels old new found (first_found find xs)
        finds_hit so = record {
          is = first_here find xs i x found there (sym before.is) at here.is test so;
          clean = λ none. absurd (something found none (sym test ∙ so));
          entered = λ none. absurd (something found none (sym test ∙ so));
        }
          where
            something : (o : Option (Positioned Field)) → o ≡ None → is_some o ≡ true → ⊥
            something None none h = cc
            something (Some field) none h = some_none field none

    -- the fewest levels in which a set nests
    pub record Fewest (set : Positioned SelectionSet) (most : ℕ) : Type 0 where
      pub levels : ℕ
      pub low : levels ≤ most
      pub nests : deep_from fragments levels set ≡ None
      pub least : (fewer : ℕ) → fewer < levels → deep_from fragments fewer set ≡ None → ⊥

    fewest : (set : Positioned SelectionSet) (most : ℕ) → deep_from fragments most set ≡ None → Fewest set most
    fewest set zero nests = record { levels = 0; low = omega arith; nests = nests; least = λ fewer less h. absurd (omega (arith, less)) }
    fewest set (suc most) nests =
        let P : Option Pos → Type 0 = λ o. deep_from fragments most set ≡ o → Fewest set (suc most) in
        (elim (deep_from fragments most set) as P [
          | None ↦ λ also. let few = fewest set most also in record
              { levels = few.levels; low = omega (arith, few.low); nests = few.nests; least = few.least }
          | Some place ↦ λ also. record {
            levels = suc most;
            low = omega arith;
            nests = nests;
            least = λ fewer less h.
                let more : deep_from fragments most set ≡ None = deep_less fragments fewer most set (omega (arith, less)) h in
                some_none place (sym also ∙ more);
          }
        ]) refl

    module _ (levels place left : ℕ) (fragment : Positioned FragmentDefinition) (old : List Bool)
        (here : slice_get (values_of fragments) place ≡ Some fragment)
        (nests : deep_from fragments left (fragment_set fragment) ≡ None)
        (within : deep_from fragments levels (fragment_set fragment) ≡ None)
        (clean : IsClean fragments limit (suc levels) old) where
      few : Fewest (fragment_set fragment) levels
      few = fewest (fragment_set fragment) levels within

      not_below : (n : ℕ) → n ≡ few.levels → NestsBelow fragments n fragment → ⊥
      not_below zero is below = below
      not_below (suc n) is below = few.least n (omega (arith, is)) below

      same_here : (other : Positioned FragmentDefinition) (at : ℕ) → place ≡ at → slice_get (values_of fragments) at ≡ Some other
          → fragment ≡ other
      same_here other at is there =
          let also : slice_get (values_of fragments) place ≡ Some other = ap (slice_get (values_of fragments)) is ∙ there in
          cc

      -- while a fragment is walked through, nothing is claimed of it
      clean_open : IsClean fragments limit few.levels (slice_set old place true)
      clean_open = record {
        none = λ at left other marked there below other_nests.
            elim (written_at old place at true true marked) [
              | inl h ↦ absurd (not_below few.levels refl (subst (NestsBelow fragments few.levels) (sym (same_here other at h.0 there))
                  below))
              | inr was ↦ clean.none at left other was there (below_more few.levels (suc levels) other (omega (arith, few.low)) below)
                  other_nests
            ];
      }

      -- a fragment that is entered now
      pub finds_within : (new : List Bool) (found : Option (Positioned Field))
          → ((fewer : ℕ) → deep_from fragments fewer (fragment_set fragment) ≡ None → IsClean fragments limit fewer (slice_set old place
          true)
          → Finds fragments limit fewer (slice_set old place true) new found (crowded_from fragments limit left (fragment_set fragment)))
          → Finds fragments limit (suc levels) old new found (crowded_from fragments limit left (fragment_set fragment))
      finds_within new found walked =
          let finds = walked few.levels few.nests clean_open in
          record {
            is = finds.is;
            clean = λ none. record {
              none = λ at other_left other marked there below other_nests.
                  elim (finds.entered none at other marked there) [
                    | inl before ↦ elim (written_at old place at true true before) [
                      | inl h ↦
                          let same : fragment ≡ other = same_here other at h.0 there in
                          let own : crowded_from fragments limit other_left (fragment_set fragment) ≡ None
                          = crowded_same other_left left (fragment_set fragment)
                          (subst (λ f. deep_from fragments other_left (fragment_set f) ≡ None) (sym same) other_nests) nests
                          ∙ sym finds.is ∙ none in
                          subst (λ f. crowded_from fragments limit other_left (fragment_set f) ≡ None) same own
                      | inr was ↦ clean.none at other_left other was there below other_nests
                    ]
                    | inr low ↦ (finds.clean none).none at other_left other marked there low other_nests
                  ];
            };
            entered = λ none at other marked there.
                elim (finds.entered none at other marked there) [
                  | inl before ↦ elim (written_at old place at true true before) [
                    | inl h ↦ inr (subst (λ f. deep_from fragments levels (fragment_set f) ≡ None) (same_here other at h.0 there) within)
                    | inr was ↦ inl was
                  ]
                  | inr low ↦ inr (below_more few.levels (suc levels) other (omega (arith, few.low)) low)
                ];
          }

    -- the fragment at a place, where it was entered
    pub finds_known : (levels place left : ℕ) (old : List Bool) → slice_get old place ≡ Some true
        → option_and_then (deep_from fragments left) (option_map fragment_set (slice_get (values_of fragments) place)) ≡ None
        → option_and_then (deep_from fragments levels) (option_map fragment_set (slice_get (values_of fragments) place)) ≡ None
        → IsClean fragments limit (suc levels) old
        → Finds fragments limit (suc levels) old old None
        (option_and_then (crowded_from fragments limit left) (option_map fragment_set (slice_get (values_of fragments) place)))
    finds_known levels place left old marked nests within clean = by (slice_get (values_of fragments) place) refl
      where
        by : (o : Option (Positioned FragmentDefinition)) → slice_get (values_of fragments) place ≡ o
            → Finds fragments limit (suc levels) old old None
            (option_and_then (crowded_from fragments limit left) (option_map fragment_set (slice_get (values_of fragments) place)))
        by None at = finds_still (suc levels) old None _ clean (sym (ap (λ o. option_and_then (crowded_from fragments limit left)
            (option_map fragment_set o)) at))
        by (Some fragment) at =
            finds_same (suc levels) old old None _ _
            (sym (ap (λ o. option_and_then (crowded_from fragments limit left) (option_map fragment_set o)) at))
            (finds_still (suc levels) old None _ clean
            (sym (clean.none place left fragment marked at (fragment_nests levels place fragment at within) (fragment_nests left place
            fragment at nests))))

    -- what is found in a set's selections
    abbrev pub finds_in : ℕ → List (Positioned Selection) → Option (Positioned Field)
    finds_in left selections =
        first_found (λ selection. option_or (crowded_here limit (out-Selection selection.node))
        (option_and_then (crowded_from fragments limit left) (set_beneath fragments selection))) selections

    abbrev pub nest_in : ℕ → List (Positioned Selection) → Type 0
    nest_in levels selections =
        first_found (λ selection. option_and_then (deep_from fragments levels) (set_beneath fragments selection)) selections ≡ None

    -- a set, by its selections
    set_walked : (set : Positioned SelectionSet) (left : ℕ) (old new : List Bool) (found : Option (Positioned Field))
        → deep_from fragments left set ≡ None
        → ((levels : ℕ) → nest_in levels (selections_of set) → IsClean fragments limit (suc levels) old
        → Finds fragments limit (suc levels) old new found (finds_in (left - 1) (selections_of set)))
        → (levels : ℕ) → deep_from fragments levels set ≡ None → IsClean fragments limit levels old
        → Finds fragments limit levels old new found (crowded_from fragments limit left set)
    set_walked set zero old new found nests walked levels within clean = cc
    set_walked set (suc left) old new found nests walked zero within clean = cc
    set_walked set (suc left) old new found nests walked (suc levels) within clean =
        let less : suc left - 1 ≡ left = omega arith in
        subst (λ n. Finds fragments limit (suc levels) old new found (finds_in n (selections_of set))) less (walked levels within clean)

    pub finds_set : (set : Positioned SelectionSet) (selections : List (Positioned Selection)) → selections ≡ selections_of set
        → (left : ℕ) (old new : List Bool) (found : Option (Positioned Field)) → deep_from fragments left set ≡ None
        → ((levels : ℕ) → nest_in levels selections → IsClean fragments limit (suc levels) old
        → Finds fragments limit (suc levels) old new found (finds_in (left - 1) selections))
        → (levels : ℕ) → deep_from fragments levels set ≡ None → IsClean fragments limit levels old
        → Finds fragments limit levels old new found (crowded_from fragments limit left set)
    finds_set set selections is left old new found nests walked =
        set_walked set left old new found nests
        (subst (λ xs. (levels : ℕ) → nest_in levels xs → IsClean fragments limit (suc levels) old
        → Finds fragments limit (suc levels) old new found (finds_in (left - 1) xs)) is walked)

-- the check of a document, by what the walk finds in some levels that suffice
module _ (document : ExecutableDocument) (limit levels : ℕ) (nests : NestsWithin document levels) where
  found_crowded : (found : Option (Positioned Field)) (depth : ℕ) → deep document depth ≡ None → found ≡ crowded document limit levels
      → found ≡ crowded document limit (suc depth)
  found_crowded found depth within told =
      told
      ∙ first_same (λ operation. deep_from document.fragments levels (operation_set operation))
      (λ operation. deep_from document.fragments (suc depth) (operation_set operation))
      (λ operation. crowded_from document.fragments limit levels (operation_set operation))
      (λ operation. crowded_from document.fragments limit (suc depth) (operation_set operation))
      (λ operation none also. crowded_same document.fragments limit levels (suc depth) (operation_set operation) none also)
      (operations_in document.operations) nests.none within

  pub directives_pass : None ≡ crowded document limit levels → (depth : ℕ) → deep document depth ≡ None
      → Ok tt ≡ directives_checked document limit depth
  directives_pass told depth within = ap (refused_by (crowded_error limit)) (found_crowded None depth within told)

  pub directives_refused : (field : Positioned Field) (error : ServerError) → Some field ≡ crowded document limit levels
      → error ≡ crowded_error limit field
      → (depth : ℕ) → deep document depth ≡ None → Err error ≡ directives_checked document limit depth
  directives_refused field error told said depth within =
      ap Err said ∙ ap (refused_by (crowded_error limit)) (found_crowded (Some field) depth within told)
