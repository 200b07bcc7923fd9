-- Fields that are united under their keys, one by one.
use Rattle.std.proofs.Common.{◌≡◌, ℕ, List, [], ◌∷◌, ◌++◌, length, map, Some, None, slice_get, slice_set, ap, sym, ◌∙◌}
use Rattle.std.proofs.lemmas.List.{length-map}
use Rattle.std.specs.List.{zip}
use Rattle.std.specs.Borrow.{Bor}
use Rattle.gql_base.specs.Names.{place_of}
use Rattle.gql_base.specs.Pairs.{names_of, unite, unite_all}
use Rattle.gql_doc.specs.declared.document.Field.{Field}
use Rattle.gql_doc.specs.declared.document.Positioned.{Positioned}
use Rattle.gql_select.specs.Collected.{Setting}
use Rattle.gql_select.specs.Documents.{both, reading, with_others}
use Rattle.gql_select.specs.Reading.{keyed}
use Rattle.gql_lists.proofs.SliceLemmas.{get_map, map_last, map_set}
use Rattle.gql_select.specs.Behind.{all_behind}
use Rattle.gql_select.proofs.OccurrenceLemmas.{behind_append, with_one_more}
use Rattle.gql_select.proofs.ZipLemmas.{names_last, names_long, unite_fresh, unite_found}
use Rattle.gql_collect.specs.Groups.{under_keys, united}
use Rattle.gql_collect.specs.KeyNames.{key_text}
use Rattle.gql_collect.specs.declared.group.Group.{Group}

-- the group with one more occurrence
pub united_more : (group : Group) (g : Bor (Positioned Field)) (new : Group)
    → new.first.now ≡ group.first.now → new.more.items ≡ group.more.items ++ g ∷ [] → united new ≡ both (united group) g.now
united_more group g new same added =
    (λ i. with_others (same i) (all_behind (added i)))
    ∙ ap (with_others group.first.now) (behind_append group.more.items (g ∷ []))
    ∙ with_one_more group.first.now (all_behind group.more.items) g.now

-- an occurrence of a new key is a group of its own
pub occurrence_fresh : (keys : List (List ℕ × Unit {0})) (groups : List Group) (key : List ℕ) (group : Group) (f : Positioned Field) → length groups ≡ length keys
    → place_of key (names_of keys) ≡ None → united group ≡ f
    → under_keys (keys ++ (key, tt) ∷ []) (groups ++ group ∷ []) ≡ unite both (under_keys keys groups) key f
occurrence_fresh keys groups key group f paired none is =
    let long : length (map united groups) ≡ length (names_of keys) = length-map groups united ∙ paired ∙ sym (names_long keys) in
    (λ i. zip (names_last keys key i) (map_last united groups group i))
    ∙ ap (λ g. zip (names_of keys ++ key ∷ []) (map united groups ++ g ∷ [])) is
    ∙ sym (unite_fresh both key (names_of keys) (map united groups) f long none)

-- another joins the group of its key
pub occurrence_found : (keys : List (List ℕ × Unit {0})) (groups : List Group) (key : List ℕ) (i : ℕ) (old new : Group) (f : Positioned Field)
    → length groups ≡ length keys → place_of key (names_of keys) ≡ Some i → slice_get groups i ≡ Some old → united new ≡ both (united old) f
    → under_keys keys (slice_set groups i new) ≡ unite both (under_keys keys groups) key f
occurrence_found keys groups key i old new f paired found at is =
    let long : length (map united groups) ≡ length (names_of keys) = length-map groups united ∙ paired ∙ sym (names_long keys) in
    ap (zip (names_of keys)) (map_set united groups i new)
    ∙ ap (λ g. zip (names_of keys) (slice_set (map united groups) i g)) is
    ∙ sym (unite_found both key (names_of keys) (map united groups) i (united old) f long found (get_map united groups i old at))

-- one more occurrence is looked at
pub occurrence_more : (setting : Setting) (members members' all : List (List ℕ × Positioned Field)) (its rest : List (Bor (Positioned Field)))
    (f : Bor (Positioned Field)) → its ≡ f ∷ rest
    → members' ≡ unite both members (key_text f.now) f.now
    → unite_all both members (keyed (reading setting) (all_behind its)) ≡ all
    → unite_all both members' (keyed (reading setting) (all_behind rest)) ≡ all
occurrence_more setting members members' all its rest f is added before =
    ap (λ ms. unite_all both ms (keyed (reading setting) (all_behind rest))) added
    ∙ ap (λ xs. unite_all both members (keyed (reading setting) (all_behind xs))) (sym is)
    ∙ before
