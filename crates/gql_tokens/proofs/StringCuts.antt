-- Strings that are read by the bytes of a text.
use Rattle.std.proofs.Common.{◌≡◌, ℕ, ◌+◌, ◌-◌, ◌<◌, ◌≤◌, true, false, ◌==◌, nat_lt, List, [], ◌∷◌, ◌++◌, length, take, drop, Some, refl, sym, ap, ◌∙◌, inl, inr, arith, append-nil, take-append-drop, length-take-le, take_at, subst, encode_utf8, encode_utf8_all}
use Rattle.std.proofs.lemmas.Str.{encodes-append, encodes-chars, encodes-IsAscii}
use Rattle.std.proofs.lemmas.Bool.Decides.{nat_tests}
use Rattle.std.specs.Char.{digit_value}
use Rattle.std.specs.List.{prefix_len}
use Rattle.std.specs.Str.{chars, IsUtf8}
use Rattle.gql_tokens.specs.Characters.{quote, begins}
use Rattle.gql_tokens.specs.String.{is_plain, escaped, WritesCharacter, WritesCharacters}
use Rattle.gql_tokens.specs.Parts.{IsEscape, NoString, IsStringAt}
use Rattle.gql_tokens.specs.Cut.{IsCut, IsStringIn}
use Rattle.gql_tokens.proofs.CutLemmas.{cut_behind, each_ascii, cut_front, cut_ascii, cut_run, begins_is, cut_bytes, utf8_behind}
use Rattle.gql_tokens.proofs.Lists.{Each, begins_so, run_passes}
use Rattle.gql_tokens.proofs.StringLaws.{one_written, plain_written, string_more, string_ends, no_string_behind}

-- no character beyond ASCII ends a run of plain ones
wide_plain : (c : ℕ) → 128 ≤ c → is_plain c ≡ true
wide_plain c h = grind (arith, nat_tests)

wide_not_quote : (c : ℕ) → 128 ≤ c → (c == quote) ≡ false
wide_not_quote c h = grind (arith, nat_tests)

-- a backslash escapes ASCII characters alone
escaped_is_ascii : (c v : ℕ) → escaped c ≡ Some v → nat_lt c 128 ≡ true
escaped_is_ascii c v h = grind (arith, nat_tests)

digit_is_ascii : (c : ℕ) → digit_value c < 16 → nat_lt c 128 ≡ true
digit_is_ascii c h = grind (arith, nat_tests)

-- an escape is ASCII
escape_is_ascii : (v : ℕ) (cs : List ℕ) → IsEscape v cs → Each (λ c. nat_lt c 128) cs
escape_is_ascii v cs (inl h) = subst (Each (λ c. nat_lt c 128)) (sym h.1) (refl, (escaped_is_ascii h.0 v h.2, tt))
escape_is_ascii v cs (inr h) =
    subst (Each (λ c. nat_lt c 128)) (sym h.4)
    (refl, (refl, (digit_is_ascii h.0 h.5.0, (digit_is_ascii h.1 h.5.1.0, (digit_is_ascii h.2 h.5.1.1.0, (digit_is_ascii h.3 h.5.1.1.1.0, tt))))))

-- some characters of a string, up to a byte of the text, and their value in UTF-8
pub record IsReadTo (bytes value : List ℕ) (at : ℕ) : Type 0 where
  pub count : ℕ
  pub cut : IsCut bytes at count
  pub behind : 0 < count
  pub characters : List ℕ
  pub value_is : value ≡ encode_utf8_all characters
  pub written : WritesCharacters characters (take (count - 1) (drop 1 (chars bytes)))

module _ (bytes : List ℕ) (u : IsUtf8 bytes) where
  -- after the quote nothing is read yet
  pub read_start : begins (λ c. c == quote) bytes ≡ true → (value : List ℕ) → value ≡ [] → IsReadTo bytes value 1
  read_start first value e =
      let (c, more, is, test) = begins_so (λ c. c == quote) bytes first in
      let small : c < 128 = grind (arith, nat_tests) in
      record { count = 1; cut = (cut_ascii bytes c more u is small).0; behind = omega arith; characters = []; value_is = e; written = refl }

  module _ (value : List ℕ) (at : ℕ) (h : IsReadTo bytes value at) where
    rest_utf8 : IsUtf8 (drop at bytes)
    rest_utf8 = utf8_behind bytes at h.count u h.cut

    -- more characters, which a cut of what is left has
    read_more : (k m : ℕ) (ws : List ℕ) → IsCut (drop at bytes) k m → WritesCharacters ws (take m (chars (drop at bytes)))
        → IsReadTo bytes (value ++ encode_utf8_all ws) (at + k)
    read_more k m ws cut w = record {
      count = h.count + m;
      cut = cut_behind bytes at h.count k m u h.cut cut;
      behind = omega (arith, h.behind);
      characters = h.characters ++ ws;
      value_is = ap (λ l. l ++ encode_utf8_all ws) h.value_is ∙ sym (encodes-append h.characters ws);
      written = string_more (chars bytes) h.count m h.characters ws h.behind h.written (subst (λ l. WritesCharacters ws (take m l)) h.cut.behind w);
    }

    -- a run of plain characters
    pub read_plain : (k : ℕ) → k ≡ prefix_len is_plain (drop at bytes) → IsReadTo bytes (value ++ take k (drop at bytes)) (at + k)
    read_plain k e =
        let rest = drop at bytes in
        let m = prefix_len is_plain (chars rest) in
        let cut : IsCut rest k m = subst (λ j. IsCut rest j m) (sym e) (cut_run is_plain wide_plain rest rest_utf8) in
        subst (λ l. IsReadTo bytes (value ++ l) (at + k)) (sym (cut_bytes rest k m rest_utf8 cut))
        (read_more k m (take m (chars rest)) cut (plain_written (take m (chars rest)) (run_passes is_plain (chars rest))))

    -- an escape
    pub read_escape : (k v : ℕ) → k ≤ length (drop at bytes) → IsEscape v (take k (drop at bytes)) → IsReadTo bytes (value ++ encode_utf8 v) (at + k)
    read_escape k v fits escape =
        let rest = drop at bytes in
        let front = take k rest in
        let whole : front ++ drop k rest ≡ rest = take-append-drop k rest in
        let size : length front ≡ k = length-take-le k rest fits in
        let found = cut_front front (drop k rest) (subst IsUtf8 (sym whole) rest_utf8) (escape_is_ascii v front escape) in
        let cut : IsCut rest k k = subst (λ j. IsCut rest j j) size (subst (λ l. IsCut l (length front) (length front)) whole found.0) in
        let same : take k (chars rest) ≡ front =
        ap (λ l. take k (chars l)) (sym whole) ∙ ap (take k) found.1 ∙ take_at front (chars (drop k rest)) k size in
        subst (λ l. IsReadTo bytes (value ++ l) (at + k)) (append-nil (encode_utf8 v))
        (read_more k k (v ∷ []) cut (subst (WritesCharacters (v ∷ [])) (sym same) (one_written v front (inr escape))))

    module _ (first : begins (λ c. c == quote) bytes ≡ true) where
      first_is : begins (λ c. c == quote) (chars bytes) ≡ true
      first_is = begins_is (λ c. c == quote) false wide_not_quote bytes u ∙ first

      -- the quote that ends a string
      pub read_end : begins (λ c. c == quote) (drop at bytes) ≡ true → IsStringIn bytes value (at + 1)
      read_end ends =
          let rest = drop at bytes in
          let (c, more, is, test) = begins_so (λ c. c == quote) rest ends in
          let small : c < 128 = grind (arith, nat_tests) in
          let ends_is = ap (begins (λ c. c == quote)) (sym h.cut.behind) ∙ begins_is (λ c. c == quote) false wide_not_quote rest rest_utf8 ∙ ends in (
            h.count + 1,
            cut_behind bytes at h.count 1 1 u h.cut (cut_ascii rest c more rest_utf8 is small).0,
            subst (λ l. IsStringAt (chars bytes) l (h.count + 1)) (sym h.value_is)
                (string_ends (chars bytes) h.count h.characters first_is h.behind h.written ends_is),
          )

      -- where neither a plain character, nor the quote, nor an escape follows, no string begins
      pub read_none : begins is_plain (drop at bytes) ≡ false → begins (λ c. c == quote) (drop at bytes) ≡ false
          → ((v : ℕ) (cs rest : List ℕ) → drop at bytes ≡ cs ++ rest → IsEscape v cs → ⊥) → NoString (chars bytes)
      read_none no_plain no_quote no_escape =
          no_string_behind (chars bytes) h.count h.characters first_is h.behind h.written
          (ap (begins (λ c. c == quote)) (sym h.cut.behind) ∙ begins_is (λ c. c == quote) false wide_not_quote (drop at bytes) rest_utf8 ∙ no_quote)
          (λ v cs rest e w. none v cs rest (h.cut.behind ∙ e) w)
        where
          none : (v : ℕ) (cs rest : List ℕ) → chars (drop at bytes) ≡ cs ++ rest → WritesCharacter v cs → ⊥
          none v cs rest e (inl w) =
              let is = e ∙ ap (λ l. l ++ rest) w.0 in
              let other : true ≡ false = sym w.1 ∙ sym (ap (begins is_plain) is) ∙ begins_is is_plain true wide_plain (drop at bytes) rest_utf8 ∙ no_plain in cc
          none v cs rest e (inr w) =
              no_escape v cs (encode_utf8_all rest)
              (sym (encodes-chars (drop at bytes) rest_utf8) ∙ ap encode_utf8_all e ∙ encodes-append cs rest
              ∙ ap (λ l. l ++ encode_utf8_all rest) (encodes-IsAscii cs (each_ascii cs (escape_is_ascii v cs w)))) w
