-- The lines of a text in UTF-8.
use Rattle.std.proofs.Common.{◌≡◌, ℕ, ◌+◌, ◌-◌, ◌<◌, ◌≤◌, Bool, true, false, not, ◌&&◌, ◌||◌, cond, ◌==◌, nat_le, ◌⊎◌, inl, inr, List, [], ◌∷◌, ◌++◌, length, take, drop, get_or, map, reverse, fold, Option, Some, None, unwrap_or, suc, zero, refl, sym, ap, ap₂, ◌∙◌, arith, subst, take_all, drop_at, eqb-true, ne_eqb, encode_utf8, encode_utf8_all, append-nil, length-take-le, length-drop, min}
use Rattle.std.proofs.lemmas.Bool.{cases_lt, eqb-false}
use Rattle.std.proofs.lemmas.Bool.Decides.{nat_tests}
use Rattle.std.proofs.lemmas.List.{drop_all, drop_more, take_rest, get_or-drop, map-append, reverse-append}
use Rattle.std.proofs.lemmas.List.Sums.{prefix_len-le-length}
use Rattle.std.proofs.lemmas.Str.{encodes-append, encode_ascii, length-encode, len_utf8_bounds, length-le-encodes, IsCharBoundary-end, IsCharBoundary-before_ascii, IsCharBoundary-after_ascii}
use Rattle.std.specs.List.{AllByRecursion, prefix_len, join_with_byte, slice_index}
use Rattle.std.specs.Str.{IsUtf8, IsCharBoundary}
use Rattle.gql_tokens.specs.Characters.{line_feed, carriage_return, is_blank, is_line_character, begins}
use Rattle.gql_tokens.specs.Place.{ends_line}
use Rattle.gql_tokens.specs.Lines.{with_first, lines_of, indent_of, is_blank_line, least_with, with_line, common_indent, without_common_indent, without_indent, without_first_blank, without_last_blank, block_value}
use Rattle.gql_tokens.specs.Parts.{IsFirstLine}
use Rattle.gql_tokens.proofs.CutLemmas.{or_wide, each_from_index, wide_byte}
use Rattle.gql_tokens.proofs.Lists.{Each, run_stops}
use Rattle.gql_tokens.proofs.LinesLaws.{plain_character}

-- each line in UTF-8
abbrev encoded : List (List ℕ) → List (List ℕ)
encoded lines = map encode_utf8_all lines

-- an ASCII character is one byte
more_ascii : (c : ℕ) (cs : List ℕ) → c < 128 → encode_utf8_all (c ∷ cs) ≡ c ∷ encode_utf8_all cs
more_ascii c cs h = ap (λ l. l ++ encode_utf8_all cs) (encode_ascii c h)

-- the bytes of another character are none of ASCII
all_wide : (c : ℕ) → 128 ≤ c → Each (λ b. nat_le 128 b) (encode_utf8 c)
all_wide c wide = each_from_index (λ b. nat_le 128 b) (encode_utf8 c) (λ k h. grind (arith, nat_tests, wide_byte c wide k h))

-- the first of them
wide_front : (c : ℕ) → 128 ≤ c → (b : ℕ) × (more : List ℕ) × (encode_utf8 c ≡ b ∷ more) × (128 ≤ b)
wide_front c wide = go (encode_utf8 c) refl
  where
    go : (l : List ℕ) → encode_utf8 c ≡ l → (b : ℕ) × (more : List ℕ) × (encode_utf8 c ≡ b ∷ more) × (128 ≤ b)
    go [] e = absurd (omega (arith, ap length e, length-encode c, (len_utf8_bounds c).0))
    go (b ∷ more) e = (b, more, e, omega (arith, wide_byte c wide 0 (omega (arith, length-encode c, (len_utf8_bounds c).0)), ap (λ l. get_or l 0 0) e))

-- a test of ASCII characters alone holds of the first byte where it does of the first character
begins_encoded : (test : ℕ → Bool) → ((c : ℕ) → 128 ≤ c → test c ≡ false) → (cs : List ℕ) → begins test (encode_utf8_all cs) ≡ begins test cs
begins_encoded test narrow [] = refl
begins_encoded test narrow (c ∷ cs) = go (or_wide c)
  where
    go : (c < 128) ⊎ (128 ≤ c) → begins test (encode_utf8_all (c ∷ cs)) ≡ test c
    go (inl small) = ap (begins test) (more_ascii c cs small)
    go (inr wide) =
        let (b, more, e, big) = wide_front c wide in
        ap (λ l. begins test (l ++ encode_utf8_all cs)) e ∙ narrow b big ∙ sym (narrow c wide)

-- a run of ASCII characters is as many bytes
prefix_encoded : (test : ℕ → Bool) → ((c : ℕ) → 128 ≤ c → test c ≡ false) → (cs : List ℕ) → prefix_len test (encode_utf8_all cs) ≡ prefix_len test cs
prefix_encoded test narrow [] = refl
prefix_encoded test narrow (c ∷ cs) = go (or_wide c) (prefix_encoded test narrow cs)
  where
    go : (c < 128) ⊎ (128 ≤ c) → prefix_len test (encode_utf8_all cs) ≡ prefix_len test cs → prefix_len test (encode_utf8_all (c ∷ cs)) ≡ prefix_len test (c ∷ cs)
    go (inl small) more = ap (prefix_len test) (more_ascii c cs small) ∙ ap (λ n. cond (test c) (1 + n) 0) more
    go (inr wide) more =
        let (b, left, e, big) = wide_front c wide in
        ap (λ l. prefix_len test (l ++ encode_utf8_all cs)) e
        ∙ ap (λ t. cond t (1 + prefix_len test (left ++ encode_utf8_all cs)) 0) (narrow b big)
        ∙ sym (ap (λ t. cond t (1 + prefix_len test cs) 0) (narrow c wide))

narrow_feed : (c : ℕ) → 128 ≤ c → (c == line_feed) ≡ false
narrow_feed c h = grind (arith, nat_tests)

narrow_blank : (c : ℕ) → 128 ≤ c → is_blank c ≡ false
narrow_blank c h = grind (arith, nat_tests)

wide_line : (c : ℕ) → 128 ≤ c → is_line_character c ≡ true
wide_line c h = grind (arith, nat_tests)

wide_line_byte : (c : ℕ) → nat_le 128 c ≡ true → is_line_character c ≡ true
wide_line_byte c h = grind (arith, nat_tests)

-- a text has a first line
lines_some : (cs : List ℕ) → (line : List ℕ) × (lines : List (List ℕ)) × (lines_of cs ≡ line ∷ lines)
lines_some [] = ([], [], refl)
lines_some (c ∷ cs) = go (ends_line c cs) (c == carriage_return) (lines_some cs)
  where
    go : (b a : Bool) → ((line : List ℕ) × (lines : List (List ℕ)) × (lines_of cs ≡ line ∷ lines))
        → (line : List ℕ) × (lines : List (List ℕ)) × (cond b ([] ∷ lines_of cs) (cond a (lines_of cs) (with_first c (lines_of cs))) ≡ line ∷ lines)
    go true a h = ([], lines_of cs, refl)
    go false true h = h
    go false false h = (c ∷ h.0, h.1, ap (with_first c) h.2)

-- bytes that are none of ASCII stand within a line
line_wide : (bs text line : List ℕ) (lines : List (List ℕ)) → Each (λ b. nat_le 128 b) bs → lines_of text ≡ line ∷ lines → lines_of (bs ++ text) ≡ (bs ++ line) ∷ lines
line_wide [] text line lines h e = e
line_wide (b ∷ bs) text line lines h e =
    plain_character b (bs ++ text) (wide_line_byte b h.0) ∙ ap (with_first b) (line_wide bs text line lines h.1 e)

-- one ASCII character more
lines_step : (b a : Bool) (c : ℕ) (line : List ℕ) (lines : List (List ℕ)) → c < 128
    → cond b ([] ∷ encoded (line ∷ lines)) (cond a (encoded (line ∷ lines)) (with_first c (encoded (line ∷ lines))))
    ≡ encoded (cond b ([] ∷ line ∷ lines) (cond a (line ∷ lines) (with_first c (line ∷ lines))))
lines_step true a c line lines small = refl
lines_step false true c line lines small = refl
lines_step false false c line lines small = ap (λ l. l ∷ encoded lines) (sym (more_ascii c line small))

-- the lines of a text in UTF-8 are those of its characters in UTF-8
lines_encoded : (cs : List ℕ) → lines_of (encode_utf8_all cs) ≡ encoded (lines_of cs)
lines_encoded [] = refl
lines_encoded (c ∷ cs) = go (or_wide c) (lines_some cs) (lines_encoded cs)
  where
    go : (c < 128) ⊎ (128 ≤ c) → ((line : List ℕ) × (lines : List (List ℕ)) × (lines_of cs ≡ line ∷ lines))
        → lines_of (encode_utf8_all cs) ≡ encoded (lines_of cs) → lines_of (encode_utf8_all (c ∷ cs)) ≡ encoded (lines_of (c ∷ cs))
    go (inl small) some more =
        let ends : ends_line c (encode_utf8_all cs) ≡ ends_line c cs =
        ap (λ b. c == line_feed || (c == carriage_return && not b)) (begins_encoded (λ d. d == line_feed) narrow_feed cs) in
        ap lines_of (more_ascii c cs small)
        ∙ ap (λ b. cond b ([] ∷ lines_of (encode_utf8_all cs)) (cond (c == carriage_return) (lines_of (encode_utf8_all cs)) (with_first c (lines_of (encode_utf8_all cs))))) ends
        ∙ ap (λ ls. cond (ends_line c cs) ([] ∷ ls) (cond (c == carriage_return) ls (with_first c ls))) (more ∙ ap encoded some.2)
        ∙ lines_step (ends_line c cs) (c == carriage_return) c some.0 some.1 small
        ∙ ap (λ ls. encoded (cond (ends_line c cs) ([] ∷ ls) (cond (c == carriage_return) ls (with_first c ls)))) (sym some.2)
    go (inr wide) some more =
        line_wide (encode_utf8 c) (encode_utf8_all cs) (encode_utf8_all some.0) (encoded some.1) (all_wide c wide) (more ∙ ap encoded some.2)
        ∙ sym (ap encoded (plain_character c cs (wide_line c wide) ∙ ap (with_first c) some.2))

indent_encoded : (line : List ℕ) → indent_of (encode_utf8_all line) ≡ indent_of line
indent_encoded line = prefix_encoded is_blank narrow_blank line

line_end_is_ascii : (c : ℕ) → is_line_character c ≡ false → c < 128
line_end_is_ascii c h = grind (arith, nat_tests)

blank_is_ascii : (c : ℕ) → is_blank c ≡ true → c < 128
blank_is_ascii c h = grind (arith, nat_tests)

-- tabs and blanks at a line's front are one byte each
front_same : (m : ℕ) (line : List ℕ) → m ≤ indent_of line → encode_utf8_all line ≡ take m line ++ encode_utf8_all (drop m line)
front_same zero line h = refl
front_same (suc m) [] h = absurd (omega arith)
front_same (suc m) (c ∷ line) h = go (is_blank c) refl h (front_same m line)
  where
    go : (b : Bool) → is_blank c ≡ b → suc m ≤ cond b (1 + indent_of line) 0 → (m ≤ indent_of line → encode_utf8_all line ≡ take m line ++ encode_utf8_all (drop m line))
        → encode_utf8_all (c ∷ line) ≡ c ∷ take m line ++ encode_utf8_all (drop m line)
    go true e k more = more_ascii c line (blank_is_ascii c e) ∙ ap (λ l. c ∷ l) (more (omega arith))
    go false e k more = absurd (omega arith)

-- a line of tabs and blanks alone is the same in UTF-8
blank_same : (line : List ℕ) → is_blank_line line ≡ true → encode_utf8_all line ≡ line
blank_same line h =
    let whole : indent_of line ≡ length line = eqb-true (indent_of line) (length line) h in
    let n = length line in
    let within : n ≤ length line = omega arith in
    front_same n line (omega arith) ∙ ap₂ (λ a b. a ++ encode_utf8_all b) (take_all n line within) (drop_all n line within) ∙ append-nil line

blank_encoded : (line : List ℕ) → is_blank_line (encode_utf8_all line) ≡ is_blank_line line
blank_encoded line = go (is_blank_line line) refl
  where
    go : (b : Bool) → is_blank_line line ≡ b → is_blank_line (encode_utf8_all line) ≡ is_blank_line line
    go true e = ap is_blank_line (blank_same line e)
    go false e =
        let other : indent_of line ≡ length line → ⊥ = eqb-false (indent_of line) (length line) e in
        ne_eqb (indent_of (encode_utf8_all line)) (length (encode_utf8_all line))
        (λ same. other (omega (arith, same, indent_encoded line, prefix_len-le-length is_blank line, length-le-encodes line)))
        ∙ sym e

-- an indent that a line has, unless it holds tabs and blanks alone
abbrev pub Fits : ℕ → List ℕ → Type 0
Fits m line = is_blank_line line ≡ false → m ≤ indent_of line

-- a line without such an indent
drop_encoded : (m : ℕ) (line : List ℕ) → Fits m line → drop m (encode_utf8_all line) ≡ encode_utf8_all (drop m line)
drop_encoded m line fits = go (cases_lt (indent_of line) m) (is_blank_line line) refl
  where
    go : (indent_of line < m) ⊎ (m ≤ indent_of line) → (b : Bool) → is_blank_line line ≡ b → drop m (encode_utf8_all line) ≡ encode_utf8_all (drop m line)
    go (inr less) b e =
        let within : m ≤ length line = omega (arith, less, prefix_len-le-length is_blank line) in
        ap (drop m) (front_same m line less) ∙ drop_at (take m line) (encode_utf8_all (drop m line)) m (length-take-le m line within)
    go (inl more) true e =
        let none : drop m line ≡ [] = drop_all m line (omega (arith, more, eqb-true (indent_of line) (length line) e)) in
        ap (drop m) (blank_same line e) ∙ none ∙ sym (ap encode_utf8_all none)
    go (inl more) false e = absurd (omega (arith, more, fits e))

-- an indent that fits each line
abbrev pub AllFit : ℕ → List (List ℕ) → Type 0
AllFit m lines = AllByRecursion (Fits m) lines

with_line_encoded : (least : Option ℕ) (line : List ℕ) → with_line least (encode_utf8_all line) ≡ with_line least line
with_line_encoded least line =
    ap₂ (λ b n. cond b least (Some (least_with least n))) (blank_encoded line) (indent_encoded line)

indents_encoded : (least : Option ℕ) (lines : List (List ℕ)) → fold with_line least (encoded lines) ≡ fold with_line least lines
indents_encoded least [] = refl
indents_encoded least (line ∷ lines) =
    ap (λ o. fold with_line o (encoded lines)) (with_line_encoded least line) ∙ indents_encoded (with_line least line) lines

-- more lines make no greater indent
no_greater : (least : ℕ) (lines : List (List ℕ)) → unwrap_or (fold with_line (Some least) lines) 0 ≤ least
no_greater least [] = omega arith
no_greater least (line ∷ lines) = go (is_blank_line line) (no_greater least lines) (no_greater (least_with (Some least) (indent_of line)) lines)
  where
    go : (b : Bool) → unwrap_or (fold with_line (Some least) lines) 0 ≤ least
        → unwrap_or (fold with_line (Some (least_with (Some least) (indent_of line))) lines) 0 ≤ least_with (Some least) (indent_of line)
        → unwrap_or (fold with_line (cond b (Some least) (Some (least_with (Some least) (indent_of line)))) lines) 0 ≤ least
    go true same less = same
    go false same less = omega arith

no_more : (least : Option ℕ) (indent : ℕ) → least_with least indent ≤ indent
no_more None indent = omega arith
no_more (Some least) indent = omega arith

-- the common indent fits each line
indents_fit : (least : Option ℕ) (lines : List (List ℕ)) → AllFit (unwrap_or (fold with_line least lines) 0) lines
indents_fit least [] = tt
indents_fit least (line ∷ lines) = (λ full. first (is_blank_line line) full, indents_fit (with_line least line) lines)
  where
    first : (b : Bool) → b ≡ false → unwrap_or (fold with_line (cond b least (Some (least_with least (indent_of line)))) lines) 0 ≤ indent_of line
    first true e = absurd cc
    first false e = omega (arith, no_greater (least_with least (indent_of line)) lines, no_more least (indent_of line))

pub common_fits : (lines : List (List ℕ)) → AllFit (unwrap_or (common_indent lines) 0) lines
common_fits lines = indents_fit None lines

drops_encoded : (m : ℕ) (lines : List (List ℕ)) → AllFit m lines → map (drop m) (encoded lines) ≡ encoded (map (drop m) lines)
drops_encoded m [] h = refl
drops_encoded m (line ∷ lines) h = ap₂ (λ l ls. l ∷ ls) (drop_encoded m line h.0) (drops_encoded m lines h.1)

common_encoded : (lines : List (List ℕ)) → without_common_indent (encoded lines) ≡ encoded (without_common_indent lines)
common_encoded lines =
    ap (λ o. map (drop (unwrap_or o 0)) (encoded lines)) (indents_encoded None lines)
    ∙ drops_encoded (unwrap_or (common_indent lines) 0) lines (common_fits lines)

without_indent_encoded : (lines : List (List ℕ)) → without_indent (encoded lines) ≡ encoded (without_indent lines)
without_indent_encoded [] = refl
without_indent_encoded (line ∷ lines) = ap (λ ls. encode_utf8_all line ∷ ls) (common_encoded lines)

first_blank_encoded : (lines : List (List ℕ)) → without_first_blank (encoded lines) ≡ encoded (without_first_blank lines)
first_blank_encoded [] = refl
first_blank_encoded (line ∷ lines) =
    ap (λ b. cond b (without_first_blank (encoded lines)) (encoded (line ∷ lines))) (blank_encoded line)
    ∙ go (is_blank_line line) (first_blank_encoded lines)
  where
    go : (b : Bool) → without_first_blank (encoded lines) ≡ encoded (without_first_blank lines)
        → cond b (without_first_blank (encoded lines)) (encoded (line ∷ lines)) ≡ encoded (cond b (without_first_blank lines) (line ∷ lines))
    go true more = more
    go false more = refl

reverse_encoded : (lines : List (List ℕ)) → reverse (encoded lines) ≡ encoded (reverse lines)
reverse_encoded [] = refl
reverse_encoded (line ∷ lines) =
    reverse-append (encode_utf8_all line ∷ []) (encoded lines) ∙ ap (λ ls. ls ++ encode_utf8_all line ∷ []) (reverse_encoded lines)
    ∙ sym (ap encoded (reverse-append (line ∷ []) lines) ∙ map-append encode_utf8_all (reverse lines) (line ∷ []))

last_blank_encoded : (lines : List (List ℕ)) → without_last_blank (encoded lines) ≡ encoded (without_last_blank lines)
last_blank_encoded lines =
    ap (λ ls. reverse (without_first_blank ls)) (reverse_encoded lines) ∙ ap reverse (first_blank_encoded (reverse lines))
    ∙ reverse_encoded (without_first_blank (reverse lines))

join_encoded : (lines : List (List ℕ)) → join_with_byte line_feed (encoded lines) ≡ encode_utf8_all (join_with_byte line_feed lines)
join_encoded [] = refl
join_encoded (line ∷ []) = refl
join_encoded (line ∷ next ∷ lines) =
    let others = join_with_byte line_feed (next ∷ lines) in
    ap (λ l. encode_utf8_all line ++ line_feed ∷ l) (join_encoded (next ∷ lines))
    ∙ sym (encodes-append line (line_feed ∷ others) ∙ ap (λ l. encode_utf8_all line ++ l) (more_ascii line_feed others (omega arith)))

-- the value of a block string in UTF-8, from what stands between its quotes in UTF-8
pub value_encoded : (cs : List ℕ) → block_value (encode_utf8_all cs) ≡ encode_utf8_all (block_value cs)
value_encoded cs =
    ap (λ ls. join_with_byte line_feed (without_last_blank (without_first_blank (without_indent ls)))) (lines_encoded cs)
    ∙ ap (λ ls. join_with_byte line_feed (without_last_blank (without_first_blank ls))) (without_indent_encoded (lines_of cs))
    ∙ ap (λ ls. join_with_byte line_feed (without_last_blank ls)) (first_blank_encoded (without_indent (lines_of cs)))
    ∙ ap (join_with_byte line_feed) (last_blank_encoded (without_first_blank (without_indent (lines_of cs))))
    ∙ join_encoded (without_last_blank (without_first_blank (without_indent (lines_of cs))))

-- a text may be cut after its first line
pub line_cut : (text : List ℕ) (n : ℕ) → n ≡ prefix_len is_line_character text → n ≤ length text → IsCharBoundary text n
line_cut text n e within = go (cases_lt n (length text))
  where
    ends : begins is_line_character (drop n text) ≡ false
    ends = ap (λ k. begins is_line_character (drop k text)) e ∙ run_stops is_line_character text

    go : (n < length text) ⊎ (length text ≤ n) → IsCharBoundary text n
    go (inl less) =
        let stops : is_line_character (get_or text n 0) ≡ false = sym (ap (begins is_line_character) (drop_more text n 0 less)) ∙ ends in
        IsCharBoundary-before_ascii text n less (line_end_is_ascii (get_or text n 0) stops)
    go (inr more) = let last : length text ≡ n = omega arith in subst (IsCharBoundary text) last (IsCharBoundary-end text)

-- and after the line's end, of which the last byte is ASCII
pub next_cut : (text : List ℕ) (line m : ℕ) → IsUtf8 text → line ≤ length text → 0 < m → m ≤ length (take (length text - line) (drop line text))
    → slice_index (take (length text - line) (drop line text)) (m - 1) < 128 → IsCharBoundary text (line + m)
next_cut text line m u within some fits small =
    let i = line + (m - 1) in
    let rest = take_rest text line in
    let next : i + 1 ≡ line + m = omega arith in
    let byte : get_or text i 0 < 128 = omega (arith, small, ap (λ l. get_or l (m - 1) 0) rest, get_or-drop line text (m - 1) 0) in
    let inside : i < length text = omega (arith, ap length rest, length-drop line text) in
    subst (IsCharBoundary text) next (IsCharBoundary-after_ascii text i u inside byte)

-- a tab or a blank at a line's front is ASCII
blank_at : (line : List ℕ) (i : ℕ) → i < indent_of line → get_or line i 0 < 128
blank_at [] i h = absurd (omega arith)
blank_at (c ∷ line) i h = go (is_blank c) refl i h (blank_at line)
  where
    go : (b : Bool) → is_blank c ≡ b → (i : ℕ) → i < cond b (1 + indent_of line) 0 → ((k : ℕ) → k < indent_of line → get_or line k 0 < 128) → get_or (c ∷ line) i 0 < 128
    go true e zero k more = blank_is_ascii c e
    go true e (suc i) k more = more i (omega arith)
    go false e i k more = absurd (omega arith)

-- a line may be cut after an indent that fits it
pub indent_cut : (line : List ℕ) (indent k : ℕ) → IsUtf8 line → Fits indent line → k ≡ min indent (length line) → 0 < k → IsCharBoundary line k
indent_cut line indent k u fits e some =
    let within : k ≤ length line = omega arith in
    let next : (k - 1) + 1 ≡ k = omega arith in
    subst (IsCharBoundary line) next
    (IsCharBoundary-after_ascii line (k - 1) u (omega arith) (blank_at line (k - 1) (go (is_blank_line line) refl)))
  where
    go : (b : Bool) → is_blank_line line ≡ b → k - 1 < indent_of line
    go true b = omega (arith, eqb-true (indent_of line) (length line) b)
    go false b = omega (arith, fits b)

-- the first line
pub first_is : (text : List ℕ) (line : ℕ) (next : Option ℕ) → IsFirstLine text line next → (others : List (List ℕ)) × (lines_of text ≡ take line text ∷ others)
first_is text line None h = ([], h.1)
first_is text line (Some n) h = (lines_of (drop n text), h.1.2)

-- an indent that fits each line fits the first
pub line_fits : (indent : ℕ) (text : List ℕ) (line : ℕ) (next : Option ℕ) → IsFirstLine text line next → AllFit indent (lines_of text) → Fits indent (take line text)
line_fits indent text line next h fits =
    let (others, is) = first_is text line next h in
    let all = subst (AllFit indent) is fits in all.0

-- and those after it
pub next_fit : (indent : ℕ) (text : List ℕ) (line next : ℕ) → IsFirstLine text line (Some next) → AllFit indent (lines_of text) → AllFit indent (lines_of (drop next text))
next_fit indent text line next h fits = let all = subst (AllFit indent) h.1.2 fits in all.1
