-- What a walk may still look at falls as more is known.
use Rattle.std.proofs.Common.{arith, ◌≡◌, ◌⊎◌, inl, inr, ℕ, zero, suc, ◌+◌, ◌*◌, ◌≤◌, ◌<◌, Bool, true, false, List, [], ◌∷◌, map, Option, Some, None, is_some, MatchOption, length, slice_get, slice_index_or, slice_set, leb-true, refl, ap, sym, ◌∙◌}
use Rattle.std.proofs.Math.Nat.{mul_comm, suc-mul}
use Rattle.std.proofs.lemmas.Bool.{le-leb}
use Rattle.gql_base.specs.Pairs.{values_of}
use Rattle.gql_doc.specs.declared.document.DocumentOperations.{DocumentOperations}
use Rattle.gql_doc.specs.declared.document.DocumentOperations.TheVariants.{Multiple, Single}
use Rattle.gql_doc.specs.declared.document.FragmentDefinition.{FragmentDefinition}
use Rattle.gql_doc.specs.declared.document.OperationDefinition.{OperationDefinition}
use Rattle.gql_doc.specs.declared.document.Positioned.{Positioned}
use Rattle.gql_doc.specs.declared.document.Selection.{Selection}
use Rattle.gql_doc.specs.declared.document.SelectionSet.{SelectionSet}
use Rattle.gql_doc.specs.Depth.{if_any}
use Rattle.gql_admit.specs.Counted.{StaysKnown, budget, suffices, suffices_at, unless_found}
use Rattle.gql_select.specs.Standing.{standing, standing_by, standing_of, standing_under, total}
use Rattle.gql_select.proofs.StandingLemmas.{set_at, set_here, unless_drops, unless_has, unless_less, unless_most}

pub stays_itself : (fine : List (Option ℕ)) → StaysKnown fine fine
stays_itself fine = record { stays = λ left place h. h }

pub stays_on : (old now new : List (Option ℕ)) → StaysKnown old now → StaysKnown now new → StaysKnown old new
stays_on old now new first second = record { stays = λ left place h. second.stays left place (first.stays left place h) }

pub budget_less : (fragments : List (Positioned FragmentDefinition)) (old new : List (Option ℕ)) (left : ℕ) → StaysKnown old new
    → budget left fragments new ≤ budget left fragments old
budget_less fragments old new zero known = omega arith
budget_less fragments old new (suc left) known =
    let below = budget_less fragments old new left known in
    let here = unless_less fragments (suffices_at old left) (suffices_at new left) (known.stays left) in
    omega (arith, below, here)

-- fewer levels suffice than was known
fewer : (known : Option ℕ) (few level : ℕ) → MatchOption known (Unit {0}) (λ levels. few ≤ levels) → suffices known level ≡ true
    → suffices (Some few) level ≡ true
fewer None few level less so = cc
fewer (Some levels) few level less so = le-leb few level (let most = leb-true levels level so in omega (arith, less, most))

pub stays_put : (fine : List (Option ℕ)) (place few : ℕ) → MatchOption (slice_index_or fine place None) (Unit {0}) (λ levels. few ≤ levels)
    → StaysKnown fine (slice_set fine place (Some few))
stays_put fine place few less = record {
  stays = λ left other so.
      elim (set_at fine place other (Some few) None) [
        | inl same ↦ ap (λ o. suffices o left) same ∙ so
        | inr (is, here) ↦
            ap (λ o. suffices o left) here
            ∙ fewer (slice_index_or fine place None) few left less (ap (λ k. suffices (slice_index_or fine k None) left) is ∙ so)
      ];
}

-- of the number that is known and the one that is left the less is taken
pub least_low : (known : Option ℕ) (few left : ℕ)
    → MatchOption known (few ≡ left) (λ levels. (few ≤ levels) × ((few ≡ levels) ⊎ (few ≡ left)))
    → MatchOption known (Unit {0}) (λ levels. few ≤ levels)
least_low None few left least = tt
least_low (Some levels) few left least = least.0

module _ (fragments : List (Positioned FragmentDefinition)) (place left : ℕ) (fragment : Positioned FragmentDefinition)
    (at : slice_get fragments place ≡ Some fragment) where
  -- a walk through a fragment that finds nothing: then so many levels are known to suffice
  pub fragment_counted : (old now : List (Option ℕ)) (few before after : ℕ) → suffices_at old left place ≡ false → place < length now
      → few ≤ left
      → MatchOption (slice_index_or now place None) (Unit {0}) (λ levels. few ≤ levels) → StaysKnown old now
      → after + budget left fragments now ≤ before + (standing_under fragment + budget left fragments old)
      → after + budget (suc left) fragments (slice_set now place (Some few)) ≤ before + budget (suc left) fragments old
  fragment_counted old now few before after unknown within low less known bound =
      let new : List (Option ℕ) = slice_set now place (Some few) in
      let put : StaysKnown now new = stays_put now place few less in
      let below = budget_less fragments now new left put in
      let passes : suffices_at new left place ≡ true = ap (λ o. suffices o left) (set_here now place (Some few) None within) ∙ le-leb few
      left low in
      let here = unless_drops fragments (suffices_at old left) (suffices_at new left) place fragment at unknown passes
      ((stays_on old now new known put).stays left) in
      omega (arith, bound, below, here)

  -- and one that finds something
  pub fragment_stopped : (old : List (Option ℕ)) (before after : ℕ) → suffices_at old left place ≡ false
      → after ≤ before + (standing_under fragment + budget left fragments old) → after ≤ before + budget (suc left) fragments old
  fragment_stopped old before after unknown bound =
      let here = unless_has fragments (suffices_at old left) place fragment at unknown in
      omega (arith, bound, here)

-- a walk through a set that lies one level deeper
pub deeper_counted : {A : Type 0} (fragments : List (Positioned FragmentDefinition)) (old new : List (Option ℕ))
    (left before after more : ℕ) (found : Option A)
    → StaysKnown old new → after + unless_found found (budget left fragments new) ≤ before + (more + budget left fragments old)
    → after + unless_found found (budget (suc left) fragments new) ≤ before + (more + budget (suc left) fragments old)
deeper_counted fragments old new left before after more None known bound =
    let here = unless_less fragments (suffices_at old left) (suffices_at new left) (known.stays left) in
    omega (arith, bound, here)
deeper_counted fragments old new left before after more (Some found) known bound = omega (arith, bound)

less_times : (a b n : ℕ) → a ≤ b → n * a ≤ n * b
less_times a b zero less = omega arith
less_times a b (suc n) less = let rest = less_times a b n less in omega (arith, rest, less, suc-mul n a, suc-mul n b)

-- where nothing is found, what may still be looked at counts
pub none_found : {A : Type 0} (found : Option A) (there : Bool) (n : ℕ) → there ≡ is_some found → there ≡ false → unless_found found n ≡ n
none_found None there n told so = refl
none_found (Some found) there n told so = let e : true ≡ false = sym told ∙ so in cc

-- what may be looked at at all
pub budget_most : (fragments : List (Positioned FragmentDefinition)) (fine : List (Option ℕ)) (levels : ℕ)
    → budget levels fragments fine ≤ levels * total (map standing_under fragments)
budget_most fragments fine zero = omega arith
budget_most fragments fine (suc levels) =
    let below = budget_most fragments fine levels in
    let here = unless_most fragments (suffices_at fine levels) in
    omega (arith, below, here, suc-mul levels (total (map standing_under fragments)))

-- the bound for a whole document
pub whole_counted : (operations fragments limit levels : ℕ) → levels ≡ limit + 1
    → operations + levels * fragments ≤ (operations + fragments) * (limit + 2)
whole_counted operations fragments limit levels is = by (operations + fragments) refl
  where
    by : (all : ℕ) → all ≡ operations + fragments → operations + levels * fragments ≤ all * (limit + 2)
    by all sum =
        let less : levels * fragments ≤ levels * all = less_times fragments all levels (omega (arith, sum)) in
        let turned : all * (limit + 2) ≡ (limit + 2) * all = mul_comm all (limit + 2) in
        let more : (limit + 2) * all ≡ levels * all + all
        = ap (λ n. n * all) (let next : limit + 2 ≡ suc levels = omega (arith, is) in next) ∙ suc-mul levels all in
        omega (arith, less, turned, more, sum)

-- in the set that a field leads to stands what stands in its own
pub set_found : (selections : List (Positioned Selection)) (set found : Positioned SelectionSet) → Some found ≡ if_any selections set
    → standing found.node ≡ standing set.node
set_found [] set found told = cc
set_found (x ∷ selections) set found told =
    let same : found ≡ set = cc in
    ap (λ s. standing s.node) same

-- in the operations of a document stands what stands in the only one, or in each
pub standing_single : (operations : DocumentOperations) (operation : Positioned OperationDefinition) → operations ≡ Single operation
    → standing_by operations ≡ standing_of operation
standing_single operations operation is =
    let alone : standing_by operations ≡ standing_of operation + 0 = ap standing_by is in
    omega (arith, alone)

pub standing_many : (operations : DocumentOperations) (named : List (List ℕ × Positioned OperationDefinition)) → operations ≡ Multiple named
    → standing_by operations ≡ total (map standing_of (values_of named))
standing_many operations named is = ap standing_by is
