-- Places by bytes and places by characters are the same.
use Rattle.std.proofs.Common.{◌≡◌, ℕ, suc, ◌+◌, ◌<◌, ◌≤◌, Bool, true, false, nat_lt, not, ◌||◌, ◌&&◌, ◌==◌, if◌then◌else◌, ◌⊎◌, inl, inr, List, [], ◌∷◌, ◌++◌, length, take, drop, get_or, encode_utf8, encode_utf8_all, refl, sym, ap, ap₂, ◌∙◌, arith, append_assoc, length-take-le, length-drop, ltb-true, ltb-false}
use Rattle.std.proofs.lemmas.Bool.Decides.{nat_tests}
use Rattle.std.proofs.lemmas.List.{take_more, drop_more}
use Rattle.std.proofs.lemmas.Str.{chars-append, chars-encodes, encodes-chars, chars_from_encodes, encode_ascii, length-encode, len_utf8_bounds, IsUtf8-append, IsUtf8-take, IsUtf8-encode, IsCharBoundary-start}
use Rattle.std.specs.Char.{IsScalar}
use Rattle.std.specs.Str.{chars, all_scalars, IsUtf8, IsCharBoundary}
use Rattle.gql_base.specs.declared.pos.Pos.{Pos}
use Rattle.gql_tokens.specs.Characters.{line_feed, carriage_return, begins}
use Rattle.gql_tokens.specs.Place.{ends_line, next_place, place_after}
use Rattle.gql_tokens.specs.BytePlace.{goes_on_with, byte_place, bytes_place}
use Rattle.gql_tokens.specs.Cut.{IsCut}
use Rattle.gql_tokens.proofs.Lists.{Each}
use Rattle.gql_tokens.proofs.CutLemmas.{or_wide, both_hold, each_from_index, encode_characters, cut_at, wide_byte, begins_is, utf8_behind}

pub bytes_place-append : (place : Pos) (a b rest : List ℕ) → bytes_place place (a ++ b) rest ≡ bytes_place (bytes_place place a (b ++ rest)) b rest
bytes_place-append place [] b rest = refl
bytes_place-append place (c ∷ a) b rest =
    ap (λ l. bytes_place (byte_place place c l) (a ++ b) rest) (append_assoc a b rest)
    ∙ bytes_place-append (byte_place place c (a ++ (b ++ rest))) a b rest

-- the place after one byte more
pub bytes_place_more : (place : Pos) (text : List ℕ) (i : ℕ) → i < length text
    → bytes_place place (take (i + 1) text) (drop (i + 1) text) ≡ byte_place (bytes_place place (take i text) (drop i text)) (get_or text i 0) (drop (i + 1) text)
bytes_place_more place text i h =
    let b = get_or text i 0 in
    let next = drop (i + 1) text in
    ap (λ l. bytes_place place l next) (take_more text i 0 h) ∙ bytes_place-append place (take i text) (b ∷ []) next
    ∙ ap (λ l. byte_place (bytes_place place (take i text) l) b next) (sym (drop_more text i 0 h))

-- bytes that go on with a character change no place
stays : (place : Pos) (bs rest : List ℕ) → Each goes_on_with bs → bytes_place place bs rest ≡ place
stays place [] rest h = refl
stays place (b ∷ bs) rest h =
    ap (λ on. bytes_place (if on then place else next_place place b (bs ++ rest)) bs rest) h.0 ∙ stays place bs rest h.1

-- the place at the next column of the same line
abbrev next_column : Pos → Pos
next_column place = record { line = place.line; column = place.column + 1 }

-- what is beyond ASCII ends no line
wide_place : (place : Pos) (c : ℕ) (rest : List ℕ) → 128 ≤ c → next_place place c rest ≡ next_column place
wide_place place c rest h =
    let e : ends_line c rest ≡ false = grind (arith, nat_tests) in
    ap (λ ends. if ends then record { line = place.line + 1; column = 1 } else next_column place) e

-- a byte that begins a character and others that go on with it are one column
one_column : (place : Pos) (bs rest : List ℕ) → 0 < length bs → 192 ≤ get_or bs 0 0 → ((k : ℕ) → 0 < k → k < length bs → goes_on_with (get_or bs k 0) ≡ true)
    → bytes_place place bs rest ≡ next_column place
one_column place [] rest some lead more = absurd (omega arith)
one_column place (b ∷ bs) rest some lead more =
    let e : goes_on_with b ≡ false = grind (arith, nat_tests) in
    ap (λ on. bytes_place (if on then place else next_place place b (bs ++ rest)) bs rest) e
    ∙ ap (λ p. bytes_place p bs rest) (wide_place place b (bs ++ rest) (omega arith))
    ∙ stays (next_column place) bs rest (each_from_index goes_on_with bs (λ k h. more (suc k) (omega arith) (omega arith)))

-- a text that isn't empty has a character
some_characters : (bytes : List ℕ) → IsUtf8 bytes → 0 < length bytes → 0 < length (chars bytes)
some_characters bytes h some = go (chars bytes) (encodes-chars bytes h)
  where
    go : (cs : List ℕ) → encode_utf8_all cs ≡ bytes → 0 < length cs
    go [] e = absurd (omega (arith, ap length e))
    go (c ∷ cs) e = omega arith

-- no character begins within another
inner_byte : (c k : ℕ) → IsScalar c → 0 < k → k < length (encode_utf8 c) → get_or (encode_utf8 c) k 0 < 192
inner_byte c k s some within = go (nat_lt (get_or (encode_utf8 c) k 0) 192) refl
  where
    text : IsUtf8 (encode_utf8 c)
    text = IsUtf8-encode c s

    apart : IsCharBoundary (encode_utf8 c) k → ⊥
    apart at =
        let bytes = encode_utf8 c in
        let n = length (chars (take k bytes)) in
        let cut = cut_at bytes k n text at refl in
        let one = some_characters (take k bytes) (IsUtf8-take bytes k text at) (omega (arith, length-take-le k bytes)) in
        let two = some_characters (drop k bytes) (utf8_behind bytes k n text cut) (omega (arith, length-drop k bytes)) in
        omega (arith, ap length (encode_characters c s), ap length cut.behind, length-drop n (chars bytes))

    go : (low : Bool) → nat_lt (get_or (encode_utf8 c) k 0) 192 ≡ low → get_or (encode_utf8 c) k 0 < 192
    go true e = ltb-true (get_or (encode_utf8 c) k 0) 192 e
    go false e = let high = ltb-false (get_or (encode_utf8 c) k 0) 192 e in absurd (apart (omega arith, λ _ _. high))

-- the bytes of one character lead where it leads
character_leads : (place : Pos) (c : ℕ) (rest : List ℕ) → IsScalar c → IsUtf8 rest → bytes_place place (encode_utf8 c) rest ≡ next_place place c (chars rest)
character_leads place c rest s h = by (or_wide c)
  where
    more : 128 ≤ c → (k : ℕ) → 0 < k → k < length (encode_utf8 c) → goes_on_with (get_or (encode_utf8 c) k 0) ≡ true
    more h k some within =
        let low = wide_byte c h k within in
        let high = inner_byte c k s some within in
        grind (arith, nat_tests)

    by : (c < 128) ⊎ (128 ≤ c) → bytes_place place (encode_utf8 c) rest ≡ next_place place c (chars rest)
    by (inl small) =
        let e : goes_on_with c ≡ false = grind (arith, nat_tests) in
        let same = begins_is (λ d. d == line_feed) false (λ d h. grind (arith, nat_tests)) rest h in
        ap (λ l. bytes_place place l rest) (encode_ascii c small)
        ∙ ap (λ on. if on then place else next_place place c rest) e
        ∙ ap (λ first. if c == line_feed || (c == carriage_return && not first) then record { line = place.line + 1; column = 1 } else next_column place) (sym same)
    by (inr h) =
        let some : 0 < length (encode_utf8 c) = omega (arith, length-encode c, len_utf8_bounds c) in
        let lead = (IsCharBoundary-start (encode_utf8 c) (IsUtf8-encode c s)).1 some (wide_byte c h 0 some) in
        one_column place (encode_utf8 c) rest some lead (more h) ∙ sym (wide_place place c (chars rest) h)

-- the bytes of characters lead where these lead
bytes_lead : (place : Pos) (cs rest : List ℕ) → all_scalars cs ≡ true → IsUtf8 rest → bytes_place place (encode_utf8_all cs) rest ≡ place_after place cs (chars rest)
bytes_lead place [] rest s h = refl
bytes_lead place (c ∷ cs) rest s h =
    let valid = both_hold _ (all_scalars cs) s in
    let text : IsUtf8 (encode_utf8_all cs) = (cs, (valid.1, refl)) in
    let behind : chars (encode_utf8_all cs ++ rest) ≡ cs ++ chars rest = chars-append (encode_utf8_all cs) rest text ∙ ap (λ l. l ++ chars rest) (chars-encodes cs valid.1) in
    bytes_place-append place (encode_utf8 c) (encode_utf8_all cs) rest
    ∙ ap (λ p. bytes_place p (encode_utf8_all cs) rest) (character_leads place c (encode_utf8_all cs ++ rest) valid.0 (IsUtf8-append (encode_utf8_all cs) rest text h) ∙ ap (next_place place c) behind)
    ∙ bytes_lead (next_place place c (cs ++ chars rest)) cs rest valid.1 h

-- the bytes of a cut lead where its characters lead
pub cut_leads : (place : Pos) (bytes : List ℕ) (k n : ℕ) → IsUtf8 bytes → IsCut bytes k n
    → bytes_place place (take k bytes) (drop k bytes) ≡ place_after place (take n (chars bytes)) (drop n (chars bytes))
cut_leads place bytes k n h cut =
    let front = IsUtf8-take bytes k h cut.boundary in
    let is : front.0 ≡ take n (chars bytes) = chars_from_encodes front.0 (take k bytes) front front.1.1 ∙ cut.front in
    ap (λ l. bytes_place place l (drop k bytes)) (sym front.1.1)
    ∙ bytes_lead place front.0 (drop k bytes) front.1.0 (utf8_behind bytes k n h cut)
    ∙ ap₂ (place_after place) is cut.behind
