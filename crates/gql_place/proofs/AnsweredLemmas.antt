-- Places of answers are placed as the law on apart execution asks.
use Rattle.std.proofs.Common.{◌≡◌, ℕ, List, ap, sym, ◌∙◌}
use Rattle.gql_base.specs.Pairs.{unite_all}
use Rattle.gql_base.specs.declared.pos.Pos.{Pos}
use Rattle.gql_place.specs.declared.place.Place.{Place}
use Rattle.gql_place.specs.Answered.{answering, IsAnswering}
use Rattle.gql_place.specs.Filled.{Outcome, place_with}
use Rattle.gql_select.specs.Grouped.{IsPlacing}
use Rattle.gql_place.specs.Join.{join}
use Rattle.gql_select.specs.Reading.{Reading}
use Rattle.gql_place.proofs.FillLemmas.{filled_both, filled_same}
use Rattle.gql_place.proofs.JoinLemmas.{join_is}

module _ {O P : Type 0} where
  placed_both : (one other : Pos) (outcome : Outcome O P) (b c : O → P → List (List ℕ × Place))
      → join (place_with one outcome b) (place_with other outcome c) ≡ place_with one outcome (λ object parent. unite_all join (b object parent) (c object parent))
  placed_both one other outcome b c =
      join_is (place_with one outcome b) (place_with other outcome c)
      ∙ (λ i. record { pos = one; non_null = outcome.non_null; added = outcome.added; headers = outcome.headers; tree = filled_both one other b c outcome.shape i })

module _ {O P F X : Type 0} (reading : Reading O F X) (pos : F → Pos) (outcome : O → P → F → Outcome O P) (is : IsAnswering reading pos outcome) where
  pub answered_places : IsPlacing (answering reading pos outcome) join
  answered_places = record {
    same = λ o p f b c same. λ i. record {
      pos = pos f;
      non_null = (outcome o p f).non_null;
      added = (outcome o p f).added;
      headers = (outcome o p f).headers;
      tree = filled_same (pos f) b c (outcome o p f).shape (λ inner parent at. same inner parent (is.objects_are_possible o p f inner at)) i;
    };
    joins = λ o p f g b c alike.
        ap (λ a. join (place_with (pos f) (outcome o p f) b) (place_with (pos g) a c)) (is.outcome_of_alike o p f g alike)
        ∙ placed_both (pos f) (pos g) (outcome o p f) b c
        ∙ sym (λ i. place_with (is.pos_of_both f g i) (is.outcome_of_both o p f g i) (λ inner parent. unite_all join (b inner parent) (c inner parent)));
  }
