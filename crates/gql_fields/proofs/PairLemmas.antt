-- What stands in a list of pairs, by a name or at a place.
use Rattle.std.proofs.Common.{◌≡◌, ℕ, List, Option, Some, slice_get, ap, sym, ◌∙◌}
use Rattle.std.specs.Prelude.{option_and_then}
use Rattle.std.specs.Option.{option_map}
use Rattle.std.proofs.Math.ListN.{length-map}
use Rattle.std.proofs.lemmas.Option.{slice_get-map}
use Rattle.gql_base.specs.Names.{place_of}
use Rattle.gql_base.specs.Pairs.{names_of, under, values_of}
use Rattle.gql_base.proofs.PairLemmas.{under_zipped, zipped_again}

-- what stands under a name stands at its place
pub under_at : {T : Type 0} (sought : List ℕ) (ps : List (List ℕ × T)) (found : Option ℕ) → found ≡ place_of sought (names_of ps)
    → under sought ps ≡ option_and_then (slice_get (values_of ps)) found
under_at sought ps found told =
    ap (under sought) (sym (zipped_again ps))
    ∙ under_zipped sought (names_of ps) (values_of ps) (length-map ps (λ p. p.1) ∙ sym (length-map ps (λ p. p.0)))
    ∙ ap (option_and_then (slice_get (values_of ps))) (sym told)

-- the value of the pair at a place
pub value_at : {T : Type 0} (ps : List (List ℕ × T)) (i : ℕ) (name : List ℕ) (value : T) → slice_get ps i ≡ Some (name, value)
    → slice_get (values_of ps) i ≡ Some value
value_at ps i name value at = slice_get-map (λ p. p.1) ps i ∙ ap (option_map (λ p. p.1)) at
