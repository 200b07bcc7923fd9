-- What a reading that gives a value has read on its way.
use Rattle.std.proofs.Common.{◌≡◌, ℕ, ◌+◌, Bool, true, false, cond, ◌&&◌, List, [], ◌∷◌, ◌++◌, length, codes, Option, Some, None, Ok, Err, refl, ap, sym, ◌∙◌, arith, length-append}
use Rattle.std.proofs.lemmas.List.Folds.{list_all-append}
use Rattle.std.specs.List.{list_all}
use Rattle.std.specs.Str.{bytes_eq}
use Rattle.serde_json.specs.Data.{Data, Items, no_items, item}
use Rattle.serde_json.specs.Events.{items_len}
use Rattle.serde_json.specs.Find.{get, as_object, as_array}
use Rattle.gql_base.specs.Pairs.{put, under, values_of}
use Rattle.gql_base.specs.ReadJson.{Reading, and_then, inside}
use Rattle.gql_base.specs.declared.path_segment.PathSegment.{PathSegment}
use Rattle.gql_base.specs.declared.path_segment.PathSegment.TheVariants.{Field, Index}
use Rattle.gql_form.specs.BenchForm.{length_or_none, list_length}
use Rattle.gql_form.specs.Plain.{needed, name_of}
use Rattle.gql_form.specs.Read.{there, perhaps, member, optional, items_behind, each, items_or_none, listed, is_fresh, named_item, named_behind, named}

abbrev value_read : {A : Type 0} → A → Reading A
value_read value = Ok value

pub ok_is : {A : Type 0} (one other : A) → value_read one ≡ value_read other → one ≡ other
ok_is one other same = cc

-- both of two steps gave something
pub then_ok : {A B : Type 0} (first : Reading A) (next : A → Reading B) (read : B) → and_then first next ≡ Ok read
    → (value : A) × (first ≡ Ok value) × (next value ≡ Ok read)
then_ok (Ok value) next read is = (value, refl, is)
then_ok (Err place) next read is = cc

pub inside_ok : {A : Type 0} (step : PathSegment) (first : Reading A) (read : A) → inside step first ≡ Ok read → first ≡ Ok read
inside_ok step (Ok value) read is = is
inside_ok step (Err place) read is = cc

-- one of two ways is read, by a test
pub either_ok : {A : Type 0} (test : Bool) (one other : Reading A) (read : A) (P : Type 0) → (test ≡ true → one ≡ Ok read → P)
    → (other ≡ Ok read → P) → cond test one other ≡ Ok read → P
either_ok true one other read P first second is = first refl is
either_ok false one other read P first second is = second is

-- what is made of a value that was read passes a test
pub made_ok : {A B : Type 0} (first : Reading A) (made : A → B) (test : B → Bool) (read : B)
    → ((value : A) → first ≡ Ok value → test (made value) ≡ true) → and_then first (λ value. Ok (made value)) ≡ Ok read → test read ≡ true
made_ok first made test read passes is =
    let steps = then_ok first (λ value. Ok (made value)) read is in
    ap test (sym (ok_is _ _ steps.2)) ∙ passes steps.0 steps.1

-- a member that has to be there is read of some value
pub member_ok : {A : Type 0} (name : List ℕ) (reading : Data → Reading A) (json : Data) (read : A) → member name reading json ≡ Ok read
    → (inner : Data) × (reading inner ≡ Ok read)
member_ok name reading json read is =
    let steps = then_ok (needed (as_object json)) (λ _. inside (Field name) (there reading (get name json))) read is in
    let found = then_ok (needed (get name json)) reading read (inside_ok (Field name) (there reading (get name json)) read steps.2) in
    (found.0, found.2)

pub both : (one other : Bool) → one ≡ true → other ≡ true → (one && other) ≡ true
both true true holds too = refl
both true false holds too = too
both false other holds too = holds

pub first_holds : (one other : Bool) → (one && other) ≡ true → one ≡ true
first_holds true other holds = refl
first_holds false other holds = holds

pub second_holds : (one other : Bool) → (one && other) ≡ true → other ≡ true
second_holds true other holds = holds
second_holds false other holds = cc

-- every value that is read so passes a test
abbrev pub Passes : {A : Type 0} → (Data → Reading A) → (A → Bool) → Type 0
Passes {A} reading test = (json : Data) (read : A) → reading json ≡ Ok read → test read ≡ true

module _ {A : Type 0} (reading : Data → Reading A) where
  items_ok : (test : A → Bool) → Passes reading test → (earlier : List A) (items : Items) (read : List A) → list_all test earlier ≡ true
      → items_behind reading earlier items ≡ Ok read → list_all test read ≡ true
  items_ok test passes earlier no_items read so_far is = ap (list_all test) (sym (ok_is _ _ is)) ∙ so_far
  items_ok test passes earlier (item json items) read so_far is =
      let steps = then_ok (inside (Index (length earlier)) (reading json)) (λ value. items_behind reading (earlier ++ value ∷ []) items) read is in
      let here = passes json steps.0 (inside_ok _ (reading json) steps.0 steps.1) in
      let more = list_all-append test earlier (steps.0 ∷ []) ∙ both _ _ so_far (both _ _ here refl) in
      items_ok test passes (earlier ++ steps.0 ∷ []) items read more steps.2

  -- a list of such values
  pub each_ok : (test : A → Bool) → Passes reading test → (json : Data) (read : List A) → each reading json ≡ Ok read → list_all test read ≡ true
  each_ok test passes json read is =
      let steps = then_ok (needed (as_array json)) (items_behind reading []) read is in
      items_ok test passes [] steps.0 read refl steps.2

  items_many : (earlier : List A) (items : Items) (read : List A) → items_behind reading earlier items ≡ Ok read
      → length read ≡ length earlier + items_len items
  items_many earlier no_items read is = ap length (sym (ok_is _ _ is)) ∙ omega arith
  items_many earlier (item json items) read is =
      let steps = then_ok (inside (Index (length earlier)) (reading json)) (λ value. items_behind reading (earlier ++ value ∷ []) items) read is in
      let long = items_many (earlier ++ steps.0 ∷ []) items read steps.2 in
      let more = length-append earlier (steps.0 ∷ []) in
      omega arith

  found_many : (found : Option Items) (read : List A) → and_then (needed found) (items_behind reading []) ≡ Ok read → length read ≡ length_or_none found
  found_many None read is = cc
  found_many (Some items) read is = items_many [] items read is ∙ omega arith

  perhaps_many : (found : Option Data) (read : Option (List A)) → perhaps (each reading) found ≡ Ok read → length (items_or_none read) ≡ list_length found
  perhaps_many None read is = ap (λ r. length (items_or_none r)) (sym (ok_is _ _ is))
  perhaps_many (Some json) read is =
      let steps = then_ok (each reading json) (λ items. Ok (Some items)) read is in
      ap (λ r. length (items_or_none r)) (sym (ok_is _ _ steps.2)) ∙ found_many (as_array json) steps.0 steps.1

  -- a list has as many values as its member has items, and none without one
  pub listed_many : (name : List ℕ) (json : Data) (read : List A) → listed name reading json ≡ Ok read → length read ≡ list_length (get name json)
  listed_many name json read is =
      let steps = then_ok (optional name (each reading) json) (λ found. Ok (items_or_none found)) read is in
      let inner = then_ok (needed (as_object json)) (λ _. inside (Field name) (perhaps (each reading) (get name json))) steps.0 steps.1 in
      ap length (sym (ok_is _ _ steps.2))
      ∙ perhaps_many (get name json) steps.0 (inside_ok (Field name) (perhaps (each reading) (get name json)) steps.0 inner.2)

  item_ok : (earlier : List (List ℕ × A)) (json : Data) (read : List ℕ × A) → named_item reading earlier json ≡ Ok read → reading json ≡ Ok read.1
  item_ok earlier json read is =
      let named = then_ok (member (codes "name") name_of json) _ read is in
      let fresh = then_ok (is_fresh named.0 (under named.0 earlier)) _ read named.2 in
      let behind = then_ok (reading json) (λ value. Ok (fresh.0, value)) read fresh.2 in
      behind.1 ∙ ap (λ (p : List ℕ × A). Ok p.1) (ok_is _ _ behind.2)

  put_ok : (test : A → Bool) (pairs : List (List ℕ × A)) (name : List ℕ) (value : A) → list_all test (values_of pairs) ≡ true → test value ≡ true
      → list_all test (values_of (put pairs name value)) ≡ true
  put_ok test [] name value so_far here = both _ _ here refl
  put_ok test (p ∷ ps) name value so_far here =
      let others = second_holds _ _ so_far in
      by (bytes_eq name p.0) (first_holds _ _ so_far) others (put_ok test ps name value others here)
    where
      by : (same : Bool) → test p.1 ≡ true → list_all test (values_of ps) ≡ true → list_all test (values_of (put ps name value)) ≡ true
          → list_all test (values_of (cond same ((p.0, value) ∷ ps) (p ∷ put ps name value))) ≡ true
      by true one others more = both _ _ here others
      by false one others more = both _ _ one more

  pairs_ok : (test : A → Bool) → Passes reading test → (earlier : List (List ℕ × A)) (items : Items) (read : List (List ℕ × A))
      → list_all test (values_of earlier) ≡ true → named_behind reading earlier items ≡ Ok read → list_all test (values_of read) ≡ true
  pairs_ok test passes earlier no_items read so_far is = ap (λ ps. list_all test (values_of ps)) (sym (ok_is _ _ is)) ∙ so_far
  pairs_ok test passes earlier (item json items) read so_far is =
      let steps = then_ok (inside (Index (length earlier)) (named_item reading earlier json))
      (λ (pair : List ℕ × A). named_behind reading (put earlier pair.0 pair.1) items) read is in
      let here = passes json steps.0.1 (item_ok earlier json steps.0 (inside_ok _ (named_item reading earlier json) steps.0 steps.1)) in
      pairs_ok test passes (put earlier steps.0.0 steps.0.1) items read (put_ok test earlier steps.0.0 steps.0.1 so_far here) steps.2

  -- a list of such values under their names
  pub named_ok : (test : A → Bool) → Passes reading test → (json : Data) (read : List (List ℕ × A)) → named reading json ≡ Ok read
      → list_all test (values_of read) ≡ true
  named_ok test passes json read is =
      let steps = then_ok (needed (as_array json)) (named_behind reading []) read is in
      pairs_ok test passes [] steps.0 read refl steps.2
