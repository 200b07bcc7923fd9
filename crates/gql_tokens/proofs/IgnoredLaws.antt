-- What is ignored, one piece after the other.
use lib.Utf8.{encode}
use Rattle.std.proofs.Common.{◌≡◌, ℕ, ◌+◌, ◌<◌, ◌≤◌, Bool, true, false, ◌||◌, ◌==◌, List, [], ◌∷◌, ◌++◌, length, take, drop, get_or, encode_utf8_all, nat_eq, refl, sym, ap, ap₂, subst, subst₂, ◌∙◌, arith, eqb-true, append_assoc, take-add, drop-drop, take-append-drop}
use Rattle.std.proofs.lemmas.Bool.Decides.{nat_tests}
use Rattle.std.proofs.lemmas.Str.{chars-nil, chars_past_char, encodes-chars}
use Rattle.std.specs.List.{prefix_len, starts_with}
use Rattle.std.specs.Str.{chars, IsUtf8}
use Rattle.gql_base.specs.declared.pos.Pos.{Pos}
use Rattle.gql_tokens.specs.Characters.{hash, comma, byte_order_mark, is_blank, is_ignored, is_line_end, is_comment_character, begins}
use Rattle.gql_tokens.specs.Place.{place_after}
use Rattle.gql_tokens.specs.BytePlace.{byte_place}
use Rattle.gql_tokens.specs.Gap.{goes_on, IsGap}
use Rattle.gql_tokens.specs.Cut.{IsCut, AreIgnored, IsIgnoredIn}
use Rattle.gql_tokens.proofs.Lists.{Each, run_passes, run_stops, run_some, begins_take}
use Rattle.gql_tokens.proofs.BlockLaws.{starts_gives}
use Rattle.gql_tokens.proofs.PlaceLaws.{place_after-append}
use Rattle.gql_tokens.proofs.CutLemmas.{cut_none, cut_behind, cut_ascii, cut_character, cut_run, begins_is}
use Rattle.gql_tokens.proofs.BytePlaces.{cut_leads}

-- nothing was ignored yet
pub ignored_none : (place : Pos) (bytes : List ℕ) → IsUtf8 bytes → IsIgnoredIn place bytes 0 place
ignored_none place bytes h = record {
  count = 0;
  cut = cut_none bytes h;
  ignored = λ more rest e gap. gap;
  place_is = refl;
  line = omega arith;
  column = omega arith;
}

-- what is ignored after what was ignored
module _ (place here behind : Pos) (bytes : List ℕ) (k j : ℕ) (h : IsUtf8 bytes) (one : IsIgnoredIn place bytes k here)
    (other : IsIgnoredIn here (drop k bytes) j behind) where
  abbrev cs : List ℕ
  cs = chars bytes

  abbrev left : List ℕ
  left = drop one.count cs

  taken : take (one.count + other.count) cs ≡ take one.count cs ++ take other.count left
  taken = take-add one.count other.count cs

  dropped : drop (one.count + other.count) cs ≡ drop other.count left
  dropped = sym (drop-drop other.count one.count cs)

  second : AreIgnored (take other.count left) (drop other.count left)
  second = subst (λ l. AreIgnored (take other.count l) (drop other.count l)) one.cut.behind other.ignored

  both : AreIgnored (take one.count cs ++ take other.count left) (drop other.count left)
  both more rest e gap =
      let behind_is : left ≡ (take other.count left ++ more) ++ rest =
      sym (take-append-drop other.count left) ∙ ap (λ l. take other.count left ++ l) e ∙ sym (append_assoc (take other.count left) more rest) in
      subst (λ l. IsGap false l rest) (sym (append_assoc (take one.count cs) (take other.count left) more))
      (one.ignored (take other.count left ++ more) rest behind_is (second more rest e gap))

  leads : behind ≡ place_after place (take one.count cs ++ take other.count left) (drop other.count left)
  leads =
      other.place_is ∙ ap (λ l. place_after here (take other.count l) (drop other.count l)) one.cut.behind
      ∙ ap (λ p. place_after p (take other.count left) (drop other.count left)) (one.place_is ∙ ap (place_after place (take one.count cs)) (sym (take-append-drop other.count left)))
      ∙ sym (place_after-append place (take one.count cs) (take other.count left) (drop other.count left))

  pub ignored_more : IsIgnoredIn place bytes (k + j) behind
  ignored_more = record {
    count = one.count + other.count;
    cut = cut_behind bytes k one.count j other.count h one.cut other.cut;
    ignored = subst₂ AreIgnored (sym taken) (sym dropped) both;
    place_is = leads ∙ ap₂ (place_after place) (sym taken) (sym dropped);
    line = omega (arith, one.line, other.line);
    column = omega (arith, one.column, other.column);
  }

-- a cut of one character that is ignored
ignored_cut : (place behind : Pos) (bytes : List ℕ) (k c : ℕ) (more : List ℕ) → IsCut bytes k 1 → chars bytes ≡ c ∷ more → is_ignored c ≡ true
    → behind ≡ place_after place (take 1 (chars bytes)) (drop 1 (chars bytes)) → behind.line ≤ place.line + k → behind.column ≤ place.column + k → IsIgnoredIn place bytes k behind
ignored_cut place behind bytes k c more cut e passes place_is line column = record {
  count = 1;
  cut = cut;
  ignored = subst (λ l. AreIgnored (take 1 l) (drop 1 l)) (sym e) (λ after rest is gap. (false, passes, gap));
  place_is = place_is;
  line = line;
  column = column;
}

-- a byte that is ignored
pub ignored_byte : (place behind : Pos) (bytes : List ℕ) (b : ℕ) (more : List ℕ) → IsUtf8 bytes → bytes ≡ b ∷ more → b < 128 → is_ignored b ≡ true
    → behind ≡ byte_place place b more → behind.line ≤ place.line + 1 → behind.column ≤ place.column + 1 → IsIgnoredIn place bytes 1 behind
ignored_byte place behind bytes b more h e small passes place_is line column =
    let (cut, is) = cut_ascii bytes b more h e small in
    ignored_cut place behind bytes 1 b (chars more) cut is passes
    (place_is ∙ subst (λ l. byte_place place b more ≡ place_after place (take 1 (chars l)) (drop 1 (chars l))) (sym e) (cut_leads place (b ∷ more) 1 1 (subst IsUtf8 e h) (subst (λ l. IsCut l 1 1) e cut)))
    line column

-- the byte order mark in UTF-8
mark_bytes : encode byte_order_mark ≡ 239 ∷ 187 ∷ 191 ∷ []
unfolding encode
mark_bytes = refl

-- the byte order mark is ignored
pub ignored_mark : (place : Pos) (bytes more : List ℕ) → IsUtf8 bytes → bytes ≡ 239 ∷ 187 ∷ 191 ∷ more
    → IsIgnoredIn place bytes 3 (record { line = place.line; column = place.column + 1 })
ignored_mark place bytes more h e =
    subst (λ l. IsIgnoredIn place l 3 behind) (sym split)
    (ignored_cut place behind (encode byte_order_mark ++ more) 3 byte_order_mark (chars more) cut is refl place_is (omega arith) (omega arith))
  where
    behind : Pos
    behind = record { line = place.line; column = place.column + 1 }

    split : bytes ≡ encode byte_order_mark ++ more
    split = e ∙ ap (λ l. l ++ more) (sym mark_bytes)

    text : IsUtf8 (encode byte_order_mark ++ more)
    text = subst IsUtf8 split h

    cut : IsCut (encode byte_order_mark ++ more) 3 1
    cut = subst (λ l. IsCut (encode byte_order_mark ++ more) (length l) 1) mark_bytes (cut_character byte_order_mark more refl text)

    is : chars (encode byte_order_mark ++ more) ≡ byte_order_mark ∷ chars more
    is = chars_past_char (encode byte_order_mark ++ more) more byte_order_mark text refl

    place_is : behind ≡ place_after place (take 1 (chars (encode byte_order_mark ++ more))) (drop 1 (chars (encode byte_order_mark ++ more)))
    place_is = sym (ap (λ l. place_after place (take 1 l) (drop 1 l)) is)

-- after a comment's last character goes on what is ignored after it
from_comment : (more rest : List ℕ) → begins is_comment_character (more ++ rest) ≡ false → IsGap false more rest → IsGap true more rest
from_comment [] [] ends gap = refl
from_comment [] (c ∷ rest) ends gap = grind (arith, nat_tests)
from_comment (c ∷ more) rest ends (false, passes, gap) = (false, (grind (arith, nat_tests)), gap)
from_comment (c ∷ more) rest ends (true, passes, gap) = absurd (grind (arith, nat_tests))

-- the characters of a comment, with what is ignored after it
in_comment : (run more rest : List ℕ) → Each is_comment_character run → IsGap true more rest → IsGap true (run ++ more) rest
in_comment [] more rest h gap = gap
in_comment (c ∷ run) more rest h gap = (true, h.0, in_comment run more rest h.1 gap)

-- a comment is ignored
comment_ignored : (text behind : List ℕ) → begins (λ c. c == hash) text ≡ true → Each is_comment_character text → begins is_comment_character behind ≡ false → AreIgnored text behind
comment_ignored [] behind first each ends = let k : false ≡ true = first in absurd cc
comment_ignored (c ∷ run) behind first each ends = λ more rest e gap.
    let hash_is : c ≡ hash = eqb-true c hash first in
    (true, hash_is, in_comment run more rest each.1 (from_comment more rest (ap (begins is_comment_character) (sym e) ∙ ends) gap))

-- a comment as far as bytes go on with it
pub ignored_comment : (place behind : Pos) (bytes : List ℕ) (k : ℕ) → IsUtf8 bytes → begins (λ c. c == hash) bytes ≡ true → k ≡ prefix_len is_comment_character bytes
    → ((n : ℕ) → IsCut bytes k n → behind ≡ place_after place (take n (chars bytes)) (drop n (chars bytes)))
    → behind.line ≤ place.line + k → behind.column ≤ place.column + k → IsIgnoredIn place bytes k behind
ignored_comment place behind bytes k h first e leads line column =
    let n = prefix_len is_comment_character (chars bytes) in
    let cut : IsCut bytes k n = subst (λ l. IsCut bytes l n) (sym e) (cut_run is_comment_character (λ c h. grind (arith, nat_tests)) bytes h) in
    let begun : begins (λ c. c == hash) (chars bytes) ≡ true = begins_is (λ c. c == hash) false (λ c h. grind (arith, nat_tests)) bytes h ∙ first in
    record {
      count = n;
      cut = cut;
      ignored = comment_ignored (take n (chars bytes)) (drop n (chars bytes)) (begins_take (λ c. c == hash) n (chars bytes) begun (run_some is_comment_character (chars bytes) (hash_comment (chars bytes) begun)))
          (run_passes is_comment_character (chars bytes)) (run_stops is_comment_character (chars bytes));
      place_is = leads n cut;
      line = line;
      column = column;
    }
  where
    hash_comment : (text : List ℕ) → begins (λ c. c == hash) text ≡ true → begins is_comment_character text ≡ true
    hash_comment [] h = h
    hash_comment (c ∷ more) h = grind (arith, nat_tests)

-- the byte order mark begins a text where its bytes do
pub mark_begins : (bytes more : List ℕ) → IsUtf8 bytes → bytes ≡ 239 ∷ 187 ∷ 191 ∷ more → begins (λ c. c == byte_order_mark) (chars bytes) ≡ true
mark_begins bytes more h e =
    ap (begins (λ c. c == byte_order_mark)) (chars_past_char bytes more byte_order_mark h (e ∙ ap (λ l. l ++ more) (sym mark_bytes)))

-- and only there
pub mark_begun : (bytes : List ℕ) → IsUtf8 bytes → begins (λ c. c == byte_order_mark) (chars bytes) ≡ true → (more : List ℕ) × (bytes ≡ 239 ∷ 187 ∷ 191 ∷ more)
mark_begun bytes h first = go (chars bytes) (encodes-chars bytes h) first
  where
    go : (text : List ℕ) → encode_utf8_all text ≡ bytes → begins (λ c. c == byte_order_mark) text ≡ true → (more : List ℕ) × (bytes ≡ 239 ∷ 187 ∷ 191 ∷ more)
    go [] e first = let k : false ≡ true = first in absurd cc
    go (c ∷ text) e first =
        (encode_utf8_all text, sym e ∙ ap (λ d. encode d ++ encode_utf8_all text) (eqb-true c byte_order_mark first) ∙ ap (λ l. l ++ encode_utf8_all text) mark_bytes)

-- the test for its bytes tells whether the byte order mark begins a text
pub mark_starts : (bytes : List ℕ) → IsUtf8 bytes → starts_with nat_eq bytes (239 ∷ 187 ∷ 191 ∷ []) ≡ begins (λ c. c == byte_order_mark) (chars bytes)
mark_starts bytes h = go (starts_with nat_eq bytes (239 ∷ 187 ∷ 191 ∷ [])) (begins (λ c. c == byte_order_mark) (chars bytes)) refl refl
  where
    starts : (more : List ℕ) → bytes ≡ 239 ∷ 187 ∷ 191 ∷ more → starts_with nat_eq bytes (239 ∷ 187 ∷ 191 ∷ []) ≡ true
    starts more e = ap (λ l. starts_with nat_eq l (239 ∷ 187 ∷ 191 ∷ [])) e

    go : (a b : Bool) → starts_with nat_eq bytes (239 ∷ 187 ∷ 191 ∷ []) ≡ a → begins (λ c. c == byte_order_mark) (chars bytes) ≡ b → a ≡ b
    go true true p q = refl
    go false false p q = refl
    go true false p q = let k = mark_begins bytes (drop 3 bytes) h (starts_gives bytes (239 ∷ 187 ∷ 191 ∷ []) p) in cc
    go false true p q = let more = mark_begun bytes h q in let k = starts more.0 more.1 in cc

-- no byte order mark begins a text with another first byte
pub no_mark : (bytes : List ℕ) → IsUtf8 bytes → (get_or bytes 0 0 ≡ 239 → ⊥) → begins (λ c. c == byte_order_mark) (chars bytes) ≡ false
no_mark bytes h other = go (begins (λ c. c == byte_order_mark) (chars bytes)) refl
  where
    go : (b : Bool) → begins (λ c. c == byte_order_mark) (chars bytes) ≡ b → b ≡ false
    go false e = refl
    go true e = absurd (other (ap (λ l. get_or l 0 0) (mark_begun bytes h e).1))

-- a text that isn't empty begins with its first byte
pub first_byte : (bytes : List ℕ) → (length bytes == 0) ≡ false → bytes ≡ get_or bytes 0 0 ∷ drop 1 bytes
first_byte [] some = let k : true ≡ false = some in absurd cc
first_byte (b ∷ bytes) some = refl

-- nothing is ignored at a text's end
pub nothing_left : (bytes : List ℕ) → (length bytes == 0) ≡ true → begins (goes_on false) (chars bytes) ≡ false
nothing_left [] e = ap (begins (goes_on false)) chars-nil
nothing_left (b ∷ bytes) e = absurd (grind (arith, nat_tests))

-- an ignored character but the byte order mark, or what begins a comment
abbrev narrow : ℕ → Bool
narrow c = (is_blank c || is_line_end c) || (c == comma || c == hash)

begins_narrow : (text : List ℕ) → begins narrow text ≡ false → begins (λ c. c == byte_order_mark) text ≡ false → begins (goes_on false) text ≡ false
begins_narrow [] first no_mark = refl
begins_narrow (c ∷ more) first no_mark = grind (arith, nat_tests)

-- nothing is ignored where neither an ignored byte nor a comment nor the byte order mark begins
pub nothing_ignored : (bytes : List ℕ) (b : ℕ) (more : List ℕ) → IsUtf8 bytes → bytes ≡ b ∷ more → is_ignored b ≡ false → (b ≡ hash → ⊥)
    → begins (λ c. c == byte_order_mark) (chars bytes) ≡ false → begins (goes_on false) (chars bytes) ≡ false
nothing_ignored bytes b more h e first no_comment no_mark =
    let none : narrow b ≡ false = grind (arith, nat_tests) in
    begins_narrow (chars bytes) (begins_is narrow false (λ c h. grind (arith, nat_tests)) bytes h ∙ ap (begins narrow) e ∙ none) no_mark
