-- The fields of an object in the sets of a key's occurrences, one after another.
use Rattle.std.proofs.Common.{◌≡◌, ℕ, List, [], ◌∷◌, ◌++◌, length, take, get_or, ◌+◌, ◌<◌, refl, ap, sym, ◌∙◌}
use Rattle.std.proofs.lemmas.List.{take_more}
use Rattle.std.specs.Borrow.{Bor}
use Rattle.gql_doc.specs.declared.document.Field.{Field}
use Rattle.gql_doc.specs.declared.document.Positioned.{Positioned}
use Rattle.gql_select.specs.Alike.{name_of}
use Rattle.gql_select.specs.Behind.{all_behind}
use Rattle.gql_select.specs.Collected.{own_selections}
use Rattle.gql_select.specs.Documents.{both, with_others}
use Rattle.gql_select.proofs.DocumentLemmas.{is_reading, name_of_both, set_of_both}
use Rattle.gql_select.proofs.OccurrenceLemmas.{behind_append, with_one_more}
use Rattle.gql_collect.specs.CollectFields.{collected, setting_by}
use Rattle.gql_collect.specs.declared.collect.Collector.{Collector}

-- the one field that stands for occurrences is named as the first of them
pub name_with_others : (first : Positioned Field) (others : List (Positioned Field)) → name_of (with_others first others) ≡ name_of first
name_with_others first [] = refl
name_with_others first (other ∷ others) = name_with_others (both first other) others ∙ name_of_both first other

-- one more behind references
pub behind_more : {X : Type 0} (xs : List (Bor X)) (i : ℕ) (x : Bor X) → i < length xs → x ≡ get_or xs i x
    → all_behind (take (i + 1) xs) ≡ all_behind (take i xs) ++ x.now ∷ []
behind_more xs i x within read =
    ap all_behind (take_more xs i x within ∙ ap (λ o. take i xs ++ o ∷ []) (sym read)) ∙ behind_append (take i xs) (x ∷ [])

-- the fields in the set of a united field are those in the one, and then those in the other
collected_both : (collector : Collector) (object : List ℕ) (f g : Positioned Field)
    → collected collector object (own_selections (both f g)) ≡ collected collector object (own_selections f) ++ collected collector object (own_selections g)
collected_both collector object f g =
    ap (collected collector object) (set_of_both f g)
    ∙ (is_reading (setting_by collector)).fields_of_both object (own_selections f) (own_selections g)

-- the sets of one more occurrence are looked at
pub beneath_more : (collector : Collector) (object : List ℕ) (first : Positioned Field) (more : List (Bor (Positioned Field))) (i : ℕ) (occurrence : Bor (Positioned Field))
    (old new : List (Positioned Field)) → i < length more → occurrence ≡ get_or more i occurrence
    → old ≡ collected collector object (own_selections (with_others first (all_behind (take i more))))
    → new ≡ old ++ collected collector object (own_selections occurrence.now)
    → new ≡ collected collector object (own_selections (with_others first (all_behind (take (i + 1) more))))
beneath_more collector object first more i occurrence old new within read before added =
    let front = all_behind (take i more) in
    added
    ∙ ap (λ fs. fs ++ collected collector object (own_selections occurrence.now)) before
    ∙ sym (collected_both collector object (with_others first front) occurrence.now)
    ∙ ap (λ f. collected collector object (own_selections f)) (sym (with_one_more first front occurrence.now))
    ∙ ap (λ fs. collected collector object (own_selections (with_others first fs))) (sym (behind_more more i occurrence within read))
