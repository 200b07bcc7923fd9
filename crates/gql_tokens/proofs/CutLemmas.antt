-- Bytes of a text, and the characters that they are.
use Rattle.std.proofs.Common.{◌≡◌, ℕ, suc, ◌+◌, ◌<◌, ◌≤◌, ◌&&◌, nat_lt, Bool, true, false, ◌⊎◌, inl, inr, List, [], ◌∷◌, ◌++◌, length, take, drop, get_or, encode_utf8, encode_utf8_all, nat_eq, refl, sym, ap, ap₂, subst, subst₂, cond, ◌∙◌, arith, ltb-true, append-nil, take-append-drop, take-add, take_at, drop_at, length-take-le, length-take, length-append}
use Rattle.std.proofs.lemmas.Bool.Decides.{nat_tests}
use Rattle.std.proofs.lemmas.Str.{chars-nil, chars-append, chars_past_char, chars_from_encodes, encodes-chars, chars-IsAscii, encode_ascii, length-le-encodes, length-encode, len_utf8_bounds, IsUtf8-nil, IsUtf8-take, IsUtf8-drop, IsUtf8-encode, IsUtf8-past_char, IsUtf8-from_ascii, IsCharBoundary-start, IsCharBoundary-from_take, IsCharBoundary-from_rest, IsCharBoundary-at_seam, inside_one}
use Rattle.std.proofs.lemmas.List.Sums.{prefix_len-le-length}
use Rattle.std.proofs.lemmas.Str.Ascii.{IsAscii-nil, IsAscii-cons}
use Rattle.std.specs.Char.{IsScalar}
use Rattle.std.specs.Str.{chars, all_scalars, IsUtf8, IsAscii, IsCharBoundary}
use Rattle.std.specs.List.{prefix_len, starts_with}
use Rattle.gql_tokens.specs.Characters.{begins}
use Rattle.gql_tokens.specs.Cut.{IsCut}
use Rattle.gql_tokens.proofs.Lists.{Each, each_weaker, each_same, run_passes, run_stops, run_length}

-- where a text may be cut, its front is as many characters as it has
pub cut_at : (bytes : List ℕ) (k n : ℕ) → IsUtf8 bytes → IsCharBoundary bytes k → length (chars (take k bytes)) ≡ n → IsCut bytes k n
cut_at bytes k n h at e =
    let front = IsUtf8-take bytes k h at in
    let all : chars bytes ≡ chars (take k bytes) ++ chars (drop k bytes) =
    ap chars (sym (take-append-drop k bytes)) ∙ chars-append (take k bytes) (drop k bytes) front in
    record {
      boundary = at;
      front = sym (ap (take n) all ∙ take_at (chars (take k bytes)) (chars (drop k bytes)) n e);
      behind = sym (ap (drop n) all ∙ drop_at (chars (take k bytes)) (chars (drop k bytes)) n e);
      within = omega (arith, ap length all, length-append (chars (take k bytes)) (chars (drop k bytes)));
      fewer = omega (arith, length-le-encodes (chars (take k bytes)), ap length (encodes-chars (take k bytes) front), length-take k bytes);
    }

-- how many characters a cut's front has
pub cut_length : (bytes : List ℕ) (k n : ℕ) → IsCut bytes k n → length (chars (take k bytes)) ≡ n
cut_length bytes k n cut = ap length cut.front ∙ length-take-le n (chars bytes) cut.within

-- nothing is cut off
pub cut_none : (bytes : List ℕ) → IsUtf8 bytes → IsCut bytes 0 0
cut_none bytes h = cut_at bytes 0 0 h (IsCharBoundary-start bytes h) (ap length chars-nil)

-- one cut after another
pub cut_behind : (bytes : List ℕ) (k n j m : ℕ) → IsUtf8 bytes → IsCut bytes k n → IsCut (drop k bytes) j m → IsCut bytes (k + j) (n + m)
cut_behind bytes k n j m h one other =
    let front = IsUtf8-take bytes k h one.boundary in
    let more = take j (drop k bytes) in
    cut_at bytes (k + j) (n + m) h (IsCharBoundary-from_rest bytes k j one.boundary.0 other.boundary)
    (ap (λ l. length (chars l)) (take-add k j bytes) ∙ ap length (chars-append (take k bytes) more front)
    ∙ length-append (chars (take k bytes)) (chars more) ∙ ap₂ (λ a b. a + b) (cut_length bytes k n one) (cut_length (drop k bytes) j m other))

-- one character in UTF-8
pub encode_characters : (c : ℕ) → IsScalar c → chars (encode_utf8 c) ≡ c ∷ []
encode_characters c s =
    chars_past_char (encode_utf8 c) [] c (IsUtf8-encode c s) (sym (append-nil (encode_utf8 c))) ∙ ap (λ l. c ∷ l) chars-nil

-- the first character of a text is a cut
pub cut_character : (c : ℕ) (rest : List ℕ) → IsScalar c → IsUtf8 (encode_utf8 c ++ rest) → IsCut (encode_utf8 c ++ rest) (length (encode_utf8 c)) 1
cut_character c rest s h =
    let all = encode_utf8 c ++ rest in
    cut_at all (length (encode_utf8 c)) 1 h (IsCharBoundary-at_seam all (encode_utf8 c) rest refl (IsUtf8-past_char all rest c h refl))
    (ap (λ l. length (chars l)) (take_at (encode_utf8 c) rest (length (encode_utf8 c)) refl) ∙ ap length (encode_characters c s))

-- what passes this test is ASCII
pub each_ascii : (cs : List ℕ) → Each (λ c. nat_lt c 128) cs → IsAscii cs
each_ascii [] small = IsAscii-nil
each_ascii (c ∷ cs) small = IsAscii-cons c cs (ltb-true c 128 small.0) (each_ascii cs small.1)

-- ASCII characters at the front are one byte each
pub cut_front : (front more : List ℕ) → IsUtf8 (front ++ more) → Each (λ c. nat_lt c 128) front
    → IsCut (front ++ more) (length front) (length front) × (chars (front ++ more) ≡ front ++ chars more)
cut_front front more h small =
    let ascii = each_ascii front small in
    let text = IsUtf8-from_ascii front ascii in
    let taken : take (length front) (front ++ more) ≡ front = take_at front more (length front) refl in
    let at = IsCharBoundary-from_take (front ++ more) (length front) h (omega (arith, length-append front more)) (subst IsUtf8 (sym taken) text) in (
      cut_at (front ++ more) (length front) (length front) h at (ap (λ l. length (chars l)) taken ∙ ap length (chars-IsAscii front ascii)),
      chars-append front more text ∙ ap (λ l. l ++ chars more) (chars-IsAscii front ascii),
    )

-- an ASCII character is one byte
pub cut_ascii : (bytes : List ℕ) (c : ℕ) (more : List ℕ) → IsUtf8 bytes → bytes ≡ c ∷ more → c < 128 → IsCut bytes 1 1 × (chars bytes ≡ c ∷ chars more)
cut_ascii bytes c more h e small =
    let one : nat_lt c 128 ≡ true = grind (arith, nat_tests) in
    subst (λ l. IsCut l 1 1 × (chars l ≡ c ∷ chars more)) (sym e) (cut_front (c ∷ []) more (subst IsUtf8 e h) (one, tt))

-- what passes at each index passes throughout
pub each_from_index : (test : ℕ → Bool) (l : List ℕ) → ((k : ℕ) → k < length l → test (get_or l k 0) ≡ true) → Each test l
each_from_index test [] f = tt
each_from_index test (c ∷ l) f = (f 0 (omega arith), each_from_index test l (λ k h. f (suc k) (omega arith)))

-- ASCII or not
pub or_wide : (c : ℕ) → (c < 128) ⊎ (128 ≤ c)
or_wide c = go (nat_lt c 128) refl
  where
    go : (small : Bool) → nat_lt c 128 ≡ small → (c < 128) ⊎ (128 ≤ c)
    go true e = inl (ltb-true c 128 e)
    go false e = inr (grind (arith, nat_tests))

-- of two tests that pass together each passes
pub both_hold : (a b : Bool) → (a && b) ≡ true → (a ≡ true) × (b ≡ true)
both_hold true b h = (refl, h)
both_hold false b h = absurd cc

-- no byte of a character beyond ASCII is ASCII
pub wide_byte : (c : ℕ) → 128 ≤ c → (k : ℕ) → k < length (encode_utf8 c) → 128 ≤ get_or (encode_utf8 c) k 0
wide_byte c h k within = go (or_wide (get_or (encode_utf8 c) k 0))
  where
    go : (get_or (encode_utf8 c) k 0 < 128) ⊎ (128 ≤ get_or (encode_utf8 c) k 0) → 128 ≤ get_or (encode_utf8 c) k 0
    go (inl small) = let e = inside_one c [] (encode_utf8 c) k (sym (append-nil (encode_utf8 c))) within small in absurd (omega (arith, e))
    go (inr wide) = wide

-- bytes that all pass come before the run after them
run_behind : (test : ℕ → Bool) (front rest : List ℕ) → Each test front → prefix_len test (front ++ rest) ≡ length front + prefix_len test rest
run_behind test [] rest h = omega arith
run_behind test (c ∷ front) rest h = rw h.0 (omega (arith, run_behind test front rest h.1))

-- bytes that all pass a test, which no byte beyond ASCII fails, are characters that all pass it
pub cut_run : (test : ℕ → Bool) → ((c : ℕ) → 128 ≤ c → test c ≡ true) → (bytes : List ℕ) → IsUtf8 bytes
    → IsCut bytes (prefix_len test bytes) (prefix_len test (chars bytes))
cut_run test wide bytes h =
    subst (λ l. IsCut bytes (prefix_len test bytes) (prefix_len test l)) (chars_from_encodes h.0 bytes h h.1.1)
    (subst (λ l. IsCut l (prefix_len test l) (prefix_len test h.0)) h.1.1 (runs h.0 h.1.0))
  where
    passes : (c : ℕ) → test c ≡ true → (c < 128) ⊎ (128 ≤ c) → Each test (encode_utf8 c)
    passes c e (inl small) = each_same test (sym (encode_ascii c small)) (e, tt)
    passes c e (inr h) = each_from_index test (encode_utf8 c) (λ k within. wide (get_or (encode_utf8 c) k 0) (wide_byte c h k within))

    runs : (cs : List ℕ) → all_scalars cs ≡ true → IsCut (encode_utf8_all cs) (prefix_len test (encode_utf8_all cs)) (prefix_len test cs)
    runs [] s = cut_none [] IsUtf8-nil
    runs (c ∷ cs) s = let valid = both_hold _ (all_scalars cs) s in go (test c) refl (runs cs valid.1)
      where
        more : List ℕ
        more = encode_utf8_all cs

        here : IsCut (encode_utf8 c ++ more) (length (encode_utf8 c)) 1
        here = cut_character c more (both_hold _ (all_scalars cs) s).0 (c ∷ cs, (s, refl))

        stops : test c ≡ false → (c < 128) ⊎ (128 ≤ c) → prefix_len test (encode_utf8 c ++ more) ≡ 0
        stops e (inl small) = ap (λ l. prefix_len test (l ++ more)) (encode_ascii c small) ∙ ap (λ b. cond b (1 + prefix_len test more) 0) e
        stops e (inr h) = let k = wide c h in absurd cc

        go : (b : Bool) → test c ≡ b → IsCut more (prefix_len test more) (prefix_len test cs)
            → IsCut (encode_utf8 c ++ more) (prefix_len test (encode_utf8 c ++ more)) (cond (test c) (1 + prefix_len test cs) 0)
        go true e behind =
            subst₂ (IsCut (encode_utf8 c ++ more)) (sym (run_behind test (encode_utf8 c) more (passes c e (or_wide c)))) (ap (λ b. cond b (1 + prefix_len test cs) 0) (sym e))
            (cut_behind (encode_utf8 c ++ more) (length (encode_utf8 c)) 1 (prefix_len test more) (prefix_len test cs) (c ∷ cs, (s, refl)) here
            (subst (λ l. IsCut l (prefix_len test more) (prefix_len test cs)) (sym (drop_at (encode_utf8 c) more (length (encode_utf8 c)) refl)) behind))
        go false e behind =
            subst₂ (IsCut (encode_utf8 c ++ more)) (sym (stops e (or_wide c))) (ap (λ b. cond b (1 + prefix_len test cs) 0) (sym e))
            (cut_none (encode_utf8 c ++ more) (c ∷ cs, (s, refl)))

-- the first byte passes a test, which is the same for all beyond ASCII, where the first character does
pub begins_is : (test : ℕ → Bool) (wide : Bool) → ((c : ℕ) → 128 ≤ c → test c ≡ wide) → (bytes : List ℕ) → IsUtf8 bytes
    → begins test (chars bytes) ≡ begins test bytes
begins_is test wide same bytes h = ap (begins test) (sym (chars_from_encodes h.0 bytes h h.1.1)) ∙ firsts h.0 ∙ ap (begins test) h.1.1
  where
    first : (l rest : List ℕ) → 0 < length l → 128 ≤ get_or l 0 0 → begins test (l ++ rest) ≡ wide
    first [] rest some h = absurd (omega arith)
    first (b ∷ l) rest some h = same b h

    by : (c : ℕ) (rest : List ℕ) → (c < 128) ⊎ (128 ≤ c) → test c ≡ begins test (encode_utf8 c ++ rest)
    by c rest (inl small) = ap (λ l. begins test (l ++ rest)) (sym (encode_ascii c small))
    by c rest (inr h) =
        let some : 0 < length (encode_utf8 c) = omega (arith, length-encode c, len_utf8_bounds c) in
        same c h ∙ sym (first (encode_utf8 c) rest some (wide_byte c h 0 some))

    firsts : (cs : List ℕ) → begins test cs ≡ begins test (encode_utf8_all cs)
    firsts [] = refl
    firsts (c ∷ cs) = by c (encode_utf8_all cs) (or_wide c)

-- bytes that all pass a test, which each byte beyond ASCII fails, are as many characters
pub cut_narrow : (test : ℕ → Bool) → ((c : ℕ) → 128 ≤ c → test c ≡ false) → (bytes : List ℕ) → IsUtf8 bytes
    → IsCut bytes (prefix_len test bytes) (prefix_len test bytes) × (prefix_len test (chars bytes) ≡ prefix_len test bytes)
cut_narrow test narrow bytes h =
    let k = prefix_len test bytes in
    let passes = run_passes test bytes in
    let split = take-append-drop k bytes in
    let fit = length-take-le k bytes (prefix_len-le-length test bytes) in
    let cut = cut_front (take k bytes) (drop k bytes) (subst IsUtf8 (sym split) h) (each_weaker test (λ c. nat_lt c 128) (take k bytes) (λ c e. low c e (or_wide c)) passes) in
    let is : IsCut bytes k k = subst₂ (λ l m. IsCut l m m) split fit cut.0 in
    let ends = begins_is test false narrow (drop k bytes) (IsUtf8-drop bytes k h is.boundary) ∙ run_stops test bytes in
    (is, ap (prefix_len test) (ap chars (sym split) ∙ cut.1) ∙ run_length test (take k bytes) (chars (drop k bytes)) passes ends ∙ fit)
  where
    low : (c : ℕ) → test c ≡ true → (c < 128) ⊎ (128 ≤ c) → nat_lt c 128 ≡ true
    low c e (inl small) = grind (arith, nat_tests)
    low c e (inr h) = let k = narrow c h in absurd cc

-- a word of ASCII begins the bytes where it begins the characters
pub starts_is : (word bytes : List ℕ) → Each (λ c. nat_lt c 128) word → IsUtf8 bytes
    → starts_with nat_eq (chars bytes) word ≡ starts_with nat_eq bytes word
starts_is word bytes small h =
    ap (λ l. starts_with nat_eq l word) (sym (chars_from_encodes h.0 bytes h h.1.1)) ∙ starts word h.0 small
    ∙ ap (λ l. starts_with nat_eq l word) h.1.1
  where
    other : (w : ℕ) (l rest ws : List ℕ) → w < 128 → 0 < length l → 128 ≤ get_or l 0 0 → starts_with nat_eq (l ++ rest) (w ∷ ws) ≡ false
    other w [] rest ws small some h = absurd (omega arith)
    other w (b ∷ l) rest ws small some h = let e : nat_eq w b ≡ false = grind (arith, nat_tests) in rw e refl

    by : (w : ℕ) (ws : List ℕ) (c : ℕ) (cs : List ℕ) → w < 128 → (c < 128) ⊎ (128 ≤ c)
        → starts_with nat_eq cs ws ≡ starts_with nat_eq (encode_utf8_all cs) ws
        → starts_with nat_eq (c ∷ cs) (w ∷ ws) ≡ starts_with nat_eq (encode_utf8 c ++ encode_utf8_all cs) (w ∷ ws)
    by w ws c cs low (inl h) behind =
        ap (λ b. nat_eq w c && b) behind
        ∙ ap (λ l. starts_with nat_eq (l ++ encode_utf8_all cs) (w ∷ ws)) (sym (encode_ascii c h))
    by w ws c cs low (inr h) behind =
        let some : 0 < length (encode_utf8 c) = omega (arith, length-encode c, len_utf8_bounds c) in
        let e : nat_eq w c ≡ false = grind (arith, nat_tests) in
        (rw e refl) ∙ sym (other w (encode_utf8 c) (encode_utf8_all cs) ws low some (wide_byte c h 0 some))

    starts : (word cs : List ℕ) → Each (λ c. nat_lt c 128) word → starts_with nat_eq cs word ≡ starts_with nat_eq (encode_utf8_all cs) word
    starts [] cs small = refl
    starts (w ∷ ws) [] small = refl
    starts (w ∷ ws) (c ∷ cs) small = by w ws c cs (ltb-true w 128 small.0) (or_wide c) (starts ws cs small.1)

-- the bytes of a cut are its characters in UTF-8
pub cut_bytes : (bytes : List ℕ) (k n : ℕ) → IsUtf8 bytes → IsCut bytes k n → take k bytes ≡ encode_utf8_all (take n (chars bytes))
cut_bytes bytes k n h cut = sym (encodes-chars (take k bytes) (IsUtf8-take bytes k h cut.boundary)) ∙ ap encode_utf8_all cut.front

-- what is left after a cut is a text
pub utf8_behind : (bytes : List ℕ) (k n : ℕ) → IsUtf8 bytes → IsCut bytes k n → IsUtf8 (drop k bytes)
utf8_behind bytes k n h cut = IsUtf8-drop bytes k h cut.boundary
