-- Block strings that are read by the bytes of a text.
use Rattle.std.proofs.Common.{◌≡◌, ℕ, ◌+◌, ◌<◌, ◌≤◌, true, false, ◌==◌, nat_eq, nat_lt, List, [], ◌∷◌, ◌++◌, length, take, drop, refl, sym, ap, ◌∙◌, arith, append-nil, take-append-drop, length-take-le, eqb-true, subst, encode_utf8, encode_utf8_all}
use Rattle.std.proofs.lemmas.Str.{encodes-append, encodes-IsAscii, chars_from_encodes}
use Rattle.std.proofs.lemmas.Bool.{eq-eqb}
use Rattle.std.proofs.lemmas.Bool.Decides.{nat_tests}
use Rattle.std.specs.List.{prefix_len, starts_with}
use Rattle.std.specs.Str.{chars, IsUtf8}
use Rattle.gql_tokens.specs.Characters.{is_source, begins}
use Rattle.gql_tokens.specs.Block.{three_quotes, escaped_quotes}
use Rattle.gql_tokens.specs.Parts.{is_bare, IsUnended, IsBodyAt}
use Rattle.gql_tokens.specs.Cut.{IsCut, IsBodyIn}
use Rattle.gql_tokens.proofs.CutLemmas.{cut_behind, each_ascii, cut_front, cut_ascii, cut_run, begins_is, starts_is, cut_bytes, utf8_behind}
use Rattle.gql_tokens.proofs.Lists.{Each, begins_so, run_passes}
use Rattle.gql_tokens.proofs.BlockLaws.{IsWithin, within_start, within_quotes, within_itself, within_bare, within_body, within_unended, starts_gives}

-- no character beyond ASCII ends a run of characters that stand for themselves
wide_bare : (c : ℕ) → 128 ≤ c → is_bare c ≡ true
wide_bare c h = grind (arith, nat_tests)

wide_source : (c : ℕ) → 128 ≤ c → is_source c ≡ true
wide_source c h = grind (arith, nat_tests)

quotes_are_ascii : Each (λ c. nat_lt c 128) three_quotes
quotes_are_ascii = (refl, (refl, (refl, tt)))

escaped_quotes_are_ascii : Each (λ c. nat_lt c 128) escaped_quotes
escaped_quotes_are_ascii = (refl, quotes_are_ascii)

-- what may stand in a block string, but ends a run, is ASCII
pub other_is_ascii : (c : ℕ) → is_source c ≡ true → is_bare c ≡ false → c < 128
other_is_ascii c h k = grind (arith, nat_tests)

-- a word of ASCII that begins the bytes is a cut
word_cut : (word bytes : List ℕ) → Each (λ c. nat_lt c 128) word → IsUtf8 bytes → starts_with nat_eq bytes word ≡ true → IsCut bytes (length word) (length word)
word_cut word bytes small u h =
    let whole = starts_gives bytes word h in
    subst (λ l. IsCut l (length word) (length word)) (sym whole) (cut_front word (drop (length word) bytes) (subst IsUtf8 whole u) small).0

-- what stands between the quotes of a block string, in UTF-8, up to a byte of the text
pub record IsBodyTo (bytes raw : List ℕ) (at : ℕ) : Type 0 where
  pub count : ℕ
  pub cut : IsCut bytes at count
  pub characters : List ℕ
  pub raw_is : raw ≡ encode_utf8_all characters
  pub within : IsWithin (chars bytes) characters count

module _ (bytes : List ℕ) (u : IsUtf8 bytes) where
  -- after the quotes that open it nothing is read yet
  pub body_start : starts_with nat_eq bytes three_quotes ≡ true → (raw : List ℕ) → raw ≡ [] → IsBodyTo bytes raw 3
  body_start first raw e = record {
    count = 3;
    cut = word_cut three_quotes bytes quotes_are_ascii u first;
    characters = [];
    raw_is = e;
    within = within_start (chars bytes) (starts_is three_quotes bytes quotes_are_ascii u ∙ first);
  }

  module _ (raw : List ℕ) (at : ℕ) (h : IsBodyTo bytes raw at) where
    rest_utf8 : IsUtf8 (drop at bytes)
    rest_utf8 = utf8_behind bytes at h.count u h.cut

    -- more characters, which a cut of what is left has
    body_more : (k m : ℕ) (cs : List ℕ) → IsCut (drop at bytes) k m → IsWithin (chars bytes) (h.characters ++ cs) (h.count + m)
        → IsBodyTo bytes (raw ++ encode_utf8_all cs) (at + k)
    body_more k m cs cut within = record {
      count = h.count + m;
      cut = cut_behind bytes at h.count k m u h.cut cut;
      characters = h.characters ++ cs;
      raw_is = ap (λ l. l ++ encode_utf8_all cs) h.raw_is ∙ sym (encodes-append h.characters cs);
      within = within;
    }

    -- a word of ASCII begins the characters that are left where it begins the bytes
    word_is : (word : List ℕ) → Each (λ c. nat_lt c 128) word → starts_with nat_eq (drop h.count (chars bytes)) word ≡ starts_with nat_eq (drop at bytes) word
    word_is word small = ap (λ l. starts_with nat_eq l word) (sym h.cut.behind) ∙ starts_is word (drop at bytes) small rest_utf8

    -- a run of characters that stand for themselves
    pub body_bare : (k : ℕ) → k ≡ prefix_len is_bare (drop at bytes) → IsBodyTo bytes (raw ++ take k (drop at bytes)) (at + k)
    body_bare k e =
        let rest = drop at bytes in
        let m = prefix_len is_bare (chars rest) in
        let run = take m (chars rest) in
        let cut : IsCut rest k m = subst (λ j. IsCut rest j m) (sym e) (cut_run is_bare wide_bare rest rest_utf8) in
        let size : length run ≡ m = length-take-le m (chars rest) cut.within in
        let within = within_bare (chars bytes) h.characters h.count run (drop m (chars rest)) h.within
        (sym h.cut.behind ∙ sym (take-append-drop m (chars rest))) (run_passes is_bare (chars rest)) in
        subst (λ l. IsBodyTo bytes (raw ++ l) (at + k)) (sym (cut_bytes rest k m rest_utf8 cut))
        (body_more k m run cut (subst (λ n. IsWithin (chars bytes) (h.characters ++ run) (h.count + n)) size within))

    -- quotes that a backslash escapes
    pub body_quotes : starts_with nat_eq (drop at bytes) escaped_quotes ≡ true → IsBodyTo bytes (raw ++ three_quotes) (at + 4)
    body_quotes first =
        subst (λ l. IsBodyTo bytes (raw ++ l) (at + 4)) (encodes-IsAscii three_quotes (each_ascii three_quotes quotes_are_ascii))
        (body_more 4 4 three_quotes (word_cut escaped_quotes (drop at bytes) escaped_quotes_are_ascii rest_utf8 first)
        (within_quotes (chars bytes) h.characters h.count h.within (word_is escaped_quotes escaped_quotes_are_ascii ∙ first)))

    -- an ASCII character as itself
    pub body_itself : (c : ℕ) → begins (λ d. d == c) (drop at bytes) ≡ true → is_source c ≡ true → c < 128
        → starts_with nat_eq (drop at bytes) three_quotes ≡ false → starts_with nat_eq (drop at bytes) escaped_quotes ≡ false
        → IsBodyTo bytes (raw ++ encode_utf8 c) (at + 1)
    body_itself c first source small no_end no_quotes =
        let rest = drop at bytes in
        let (d, more, is, test) = begins_so (λ d. d == c) rest first in
        let whole : rest ≡ c ∷ more = is ∙ ap (λ e. e ∷ more) (eqb-true d c test) in
        let found = cut_ascii rest c more rest_utf8 whole small in
        let first_is = ap (begins (λ d. d == c)) (sym h.cut.behind ∙ found.1) ∙ eq-eqb c c refl in
        subst (λ l. IsBodyTo bytes (raw ++ l) (at + 1)) (append-nil (encode_utf8 c))
        (body_more 1 1 (c ∷ []) found.0
        (within_itself (chars bytes) h.characters h.count c h.within first_is source
        (word_is three_quotes quotes_are_ascii ∙ no_end) (word_is escaped_quotes escaped_quotes_are_ascii ∙ no_quotes)))

    -- the quotes that end it
    pub body_ends : IsUtf8 raw → starts_with nat_eq (drop at bytes) three_quotes ≡ true → IsBodyIn bytes raw (at + 3)
    body_ends text first = (
      h.count + 3,
      cut_behind bytes at h.count 3 3 u h.cut (word_cut three_quotes (drop at bytes) quotes_are_ascii rest_utf8 first),
      subst (λ l. IsBodyAt (chars bytes) l (h.count + 3)) (chars_from_encodes h.characters raw text (sym h.raw_is))
          (within_body (chars bytes) h.characters h.count h.cut.within h.within (word_is three_quotes quotes_are_ascii ∙ first)),
    )

    -- where no character that may stand in it follows, it has no end
    pub body_unended : begins is_source (drop at bytes) ≡ false → IsUnended (drop 3 (chars bytes))
    body_unended ends =
        within_unended (chars bytes) h.characters h.count h.within
        (ap (begins is_source) (sym h.cut.behind) ∙ begins_is is_source true wide_source (drop at bytes) rest_utf8 ∙ ends)
