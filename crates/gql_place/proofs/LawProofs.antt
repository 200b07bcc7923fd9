-- The laws on places, proved.
use Rattle.std.proofs.Common.{◌≡◌, ℕ, List, refl, ap, sym, ◌∙◌}
use Rattle.gql_base.specs.declared.value.Value.{Value}
use Rattle.gql_doc.specs.declared.document.Field.{Field}
use Rattle.gql_doc.specs.declared.document.Positioned.{Positioned}
use Rattle.gql_select.specs.Alike.{arguments_of, name_of}
use Rattle.gql_select.specs.Collected.{Setting}
use Rattle.gql_select.specs.Constants.{constants, Declared}
use Rattle.gql_select.specs.Documents.{both, reading}
use Rattle.gql_select.specs.Kept.{kept, kept_setting}
use Rattle.gql_select.proofs.AlikeLemmas.{alike_says, constants_same}
use Rattle.gql_select.proofs.ConflictLemmas.{agree_from}
use Rattle.gql_select.proofs.DocumentLemmas.{arguments_of_both, is_reading, name_of_both}
use Rattle.gql_select.proofs.KeptLemmas.{agree_kept}
use Rattle.gql_select.proofs.MergeLemmas.{respond_grouped}
use Rattle.gql_select.proofs.SerialLemmas.{serial_same}
use Rattle.gql_place.specs.Answered.{answering, mutating, IsAnswering}
use Rattle.gql_place.specs.Filled.{Outcome}
use Rattle.gql_place.specs.Join.{join}
use Rattle.gql_place.specs.Laws.{AreFitting, DocumentsApartAreMerged, JoinedWithItself, MutationPlacesApartAreMerged, outcome_of, PlacesApartAreMerged}
use Rattle.gql_place.proofs.SameLemmas.{joined_with_itself as same}
use Rattle.gql_place.proofs.AnsweredLemmas.{answered_places}

pub places_apart_are_merged : (O P F X : Type 0) → PlacesApartAreMerged O P F X
places_apart_are_merged O P F X = λ reading is pos outcome is_answering n o p set agree.
    respond_grouped (answering reading pos outcome) is join (answered_places reading pos outcome is_answering) n o p set agree

pub mutation_places_apart_are_merged : (O P F X W : Type 0) → MutationPlacesApartAreMerged O P F X W
mutation_places_apart_are_merged O P F X W = λ reading is effect pos root outcome at_root below n o p set world agree.
    serial_same (mutating reading effect pos root outcome) is join
    (λ w. answered_places reading pos (root w) (at_root w)) (λ w. answered_places reading pos (outcome w) (below w)) n o p set world agree

module _ {P : Type 0} (known : List ℕ → Value) (setting : Setting) (declared : List ℕ → List ℕ → List Declared)
    (answer : List ℕ → P → List ℕ → List (List ℕ × Value) → Outcome (List ℕ) P) (fitting : AreFitting answer setting) where
  asked_same : (o : List ℕ) (p : P) (f g : Positioned Field) → name_of g ≡ name_of f
      → ((declarations : List Declared) → constants known declarations (arguments_of g) ≡ constants known declarations (arguments_of f))
      → outcome_of answer known declared o p g ≡ outcome_of answer known declared o p f
  asked_same o p f g named same =
      (λ i. answer o p (named i) (constants known (declared o (named i)) (arguments_of g)))
      ∙ ap (answer o p (name_of f)) (same (declared o (name_of f)))

  pub is_answering : IsAnswering (reading (kept_setting known setting)) (λ f. f.pos) (outcome_of answer known declared)
  is_answering = record {
    pos_of_both = λ f g. refl;
    outcome_of_both = λ o p f g. asked_same o p f (both f g) (name_of_both f g) (λ declarations. ap (constants known declarations) (arguments_of_both f g));
    outcome_of_alike = λ o p f g same. let h = alike_says f g same in
        asked_same o p f g (sym h.0) (λ declarations. constants_same known declarations (arguments_of g) (arguments_of f) (λ name. sym (h.1 name)));
    objects_are_possible = λ o p f inner at. fitting o p (name_of f) (constants known (declared o (name_of f)) (arguments_of f)) inner at;
  }

pub documents_apart_are_merged : (P E : Type 0) → DocumentsApartAreMerged P E
documents_apart_are_merged P E = λ known setting declared answer fitting told n o p set none.
    places_apart_are_merged (List ℕ) P (Positioned Field) _ (reading (kept_setting known setting)) (is_reading (kept_setting known setting)) (λ f. f.pos)
    (outcome_of answer known declared) (is_answering known setting declared answer fitting) n o p (kept known set)
    (agree_kept known setting n o set set (agree_from (reading setting) (is_reading setting) told n o set none))

pub joined_with_itself : JoinedWithItself
joined_with_itself = same
