-- Strings: each is read in one way.
use Rattle.std.proofs.Common.{◌≡◌, ℕ, ◌<◌, true, false, ◌⊎◌, List, [], ◌∷◌, ◌++◌, Some, None, refl, sym, ap, ◌∙◌, inl, inr, arith, append_assoc, append-nil, ◌+◌, ◌-◌, ◌==◌, length, take, drop, drop-drop, take-add, take-append-drop, length-drop, eqb-true, subst, encode_utf8_all}
use Rattle.std.proofs.lemmas.Bool.Decides.{nat_tests}
use Rattle.gql_tokens.specs.Characters.{quote, backslash, begins}
use Rattle.gql_tokens.specs.String.{is_plain, escaped, hexadecimal_of, WritesCharacter, WritesCharacters, IsString}
use Rattle.gql_tokens.specs.Parts.{NoString, IsStringAt}
use Rattle.gql_tokens.proofs.Lists.{head_is, tail_is, begins_so, Each}

plain_not_backslash : (c : ℕ) → is_plain c ≡ true → c ≡ backslash → ⊥
plain_not_backslash c h e = grind (arith, nat_tests)

plain_not_quote : (c : ℕ) → is_plain c ≡ true → c ≡ quote → ⊥
plain_not_quote c h e = grind (arith, nat_tests)

-- `\u` is no escape of one character
escaped_not_u : (c v : ℕ) → escaped c ≡ Some v → c ≡ 117 → ⊥
escaped_not_u c v h e = let k : Some v ≡ None = sym h ∙ ap escaped e in cc

-- the first character of a written one
pub first_written : (v : ℕ) (cs : List ℕ) → WritesCharacter v cs
    → (c : ℕ) × (more : List ℕ) × (cs ≡ c ∷ more) × ((is_plain c ≡ true) ⊎ (c ≡ backslash))
first_written v cs (inl h) = (v, [], h.0, inl h.1)
first_written v cs (inr (inl h)) = (backslash, h.0 ∷ [], h.1, inr refl)
first_written v cs (inr (inr h)) = (backslash, 117 ∷ h.0 ∷ h.1 ∷ h.2 ∷ h.3 ∷ [], h.4, inr refl)

-- no character is written by a quote
pub written_not_quote : (v : ℕ) (cs x y : List ℕ) → WritesCharacter v cs → cs ++ x ≡ quote ∷ y → ⊥
written_not_quote v cs x y h e =
    let (c, more, is, kind) = first_written v cs h in
    let same : c ≡ quote = head_is (ap (λ l. l ++ x) (sym is) ∙ e) in
    elim kind [ inl plain ↦ plain_not_quote c plain same | inr b ↦ (let k : backslash ≡ quote = sym b ∙ same in absurd (omega arith)) ]

same_front : {p q a b : List ℕ} (x y : List ℕ) → p ++ x ≡ q ++ y → p ≡ a → q ≡ b → a ++ x ≡ b ++ y
same_front x y e f g = ap (λ l. l ++ x) (sym f) ∙ e ∙ ap (λ l. l ++ y) g

pub character_unique : (v w : ℕ) (p q x y : List ℕ) → WritesCharacter v p → WritesCharacter w q → p ++ x ≡ q ++ y → (v ≡ w) × (p ≡ q) × (x ≡ y)
character_unique v w p q x y (inl h) (inl k) e =
    let f = same_front x y e h.0 k.0 in let s = head_is f in let t = h.0 in let u = k.0 in ((cc), (cc), tail_is f)
character_unique v w p q x y (inl h) (inr (inl k)) e = absurd (plain_not_backslash v h.1 (head_is (same_front x y e h.0 k.1)))
character_unique v w p q x y (inl h) (inr (inr k)) e = absurd (plain_not_backslash v h.1 (head_is (same_front x y e h.0 k.4)))
character_unique v w p q x y (inr (inl h)) (inl k) e = absurd (plain_not_backslash w k.1 (sym (head_is (same_front x y e h.1 k.0))))
character_unique v w p q x y (inr (inr h)) (inl k) e = absurd (plain_not_backslash w k.1 (sym (head_is (same_front x y e h.4 k.0))))
character_unique v w p q x y (inr (inl h)) (inr (inl k)) e =
    let f = tail_is (same_front x y e h.1 k.1) in let s = head_is f in
    let a = h.1 in let b = k.1 in let c = h.2 in let d = k.2 in
    let same : Some v ≡ Some w = sym h.2 ∙ ap escaped s ∙ k.2 in
    ((cc), (cc), tail_is f)
character_unique v w p q x y (inr (inl h)) (inr (inr k)) e = absurd (escaped_not_u h.0 v h.2 (head_is (tail_is (same_front x y e h.1 k.4))))
character_unique v w p q x y (inr (inr h)) (inr (inl k)) e = absurd (escaped_not_u k.0 w k.2 (sym (head_is (tail_is (same_front x y e h.4 k.1)))))
character_unique v w p q x y (inr (inr h)) (inr (inr k)) e =
    let f0 = tail_is (tail_is (same_front x y e h.4 k.4)) in
    let a = head_is f0 in let f1 = tail_is f0 in
    let b = head_is f1 in let f2 = tail_is f1 in
    let c = head_is f2 in let f3 = tail_is f2 in
    let d = head_is f3 in
    let hp = h.4 in let kq = k.4 in let hv = h.6 in let kw = k.6 in
    let s : hexadecimal_of (h.0 ∷ h.1 ∷ h.2 ∷ h.3 ∷ []) ≡ hexadecimal_of (k.0 ∷ k.1 ∷ k.2 ∷ k.3 ∷ []) = cc in
    (hv ∙ s ∙ sym kw, (cc), tail_is f3)

-- What was read of a string's characters begins every reading of them up to a quote.
pub characters_split : (vs ws front body x y : List ℕ) → WritesCharacters vs front → WritesCharacters ws body
    → front ++ x ≡ body ++ quote ∷ y
    → (us : List ℕ) × (rest : List ℕ) × (ws ≡ vs ++ us) × (body ≡ front ++ rest) × (x ≡ rest ++ quote ∷ y) × WritesCharacters us rest
characters_split [] ws front body x y h k e =
    (ws, body, refl, ap (λ l. l ++ body) (sym h), ap (λ l. l ++ x) (sym h) ∙ e, k)
characters_split (v ∷ vs) [] front body x y h k e =
    absurd (written_not_quote v h.0 (h.1 ++ x) y h.3 (sym (append_assoc h.0 h.1 x) ∙ ap (λ l. l ++ x) (sym h.2) ∙ e ∙ ap (λ l. l ++ quote ∷ y) k))
characters_split (v ∷ vs) (w ∷ ws) front body x y h k e =
    let whole = sym (append_assoc h.0 h.1 x) ∙ ap (λ l. l ++ x) (sym h.2) ∙ e ∙ ap (λ l. l ++ quote ∷ y) k.2 ∙ append_assoc k.0 k.1 (quote ∷ y) in
    let one = character_unique v w h.0 k.0 (h.1 ++ x) (k.1 ++ quote ∷ y) h.3 k.3 whole in
    let more = characters_split vs ws h.1 k.1 x y h.4 k.4 one.2 in
    let same = one.0 in let first = one.1 in let values = more.2 in let written = more.3 in
    (more.0, more.1, (cc), k.2 ∙ ap (λ l. k.0 ++ l) written ∙ sym (append_assoc k.0 h.1 more.1) ∙ ap (λ l. l ++ h.1 ++ more.1) (sym first) ∙ ap (λ l. l ++ more.1) (sym h.2), more.4, more.5)

-- a string is read in one way, whatever follows it
pub string_unique : (v w p q x y : List ℕ) → IsString v p → IsString w q → p ++ x ≡ q ++ y → (v ≡ w) × (p ≡ q) × (x ≡ y)
string_unique v w p q x y h k e =
    let whole : h.0 ++ quote ∷ x ≡ k.0 ++ quote ∷ y =
    sym (append_assoc h.0 (quote ∷ []) x) ∙ tail_is (same_front x y e h.1 k.1) ∙ append_assoc k.0 (quote ∷ []) y in
    let more = characters_split v w h.0 k.0 (quote ∷ x) y h.2 k.2 whole in
    ended more.0 more.1 more.2 more.3 more.4 more.5
  where
    ended : (us rest : List ℕ) → w ≡ v ++ us → k.0 ≡ h.0 ++ rest → quote ∷ x ≡ rest ++ quote ∷ y → WritesCharacters us rest → (v ≡ w) × (p ≡ q) × (x ≡ y)
    ended [] rest a b c d =
        let nothing : quote ∷ x ≡ quote ∷ y = c ∙ ap (λ l. l ++ quote ∷ y) d in
        let body : k.0 ≡ h.0 = b ∙ ap (λ l. h.0 ++ l) d ∙ append-nil h.0 in
        (sym (a ∙ append-nil v), h.1 ∙ ap (λ l. quote ∷ l ++ quote ∷ []) (sym body) ∙ sym k.1, tail_is nothing)
    ended (u ∷ us) rest a b c d =
        absurd (written_not_quote u d.0 (d.1 ++ quote ∷ y) x d.3 (sym (append_assoc d.0 d.1 (quote ∷ y)) ∙ ap (λ l. l ++ quote ∷ y) (sym d.2) ∙ sym c))

-- characters after others
characters_append : (vs ws cs ds : List ℕ) → WritesCharacters vs cs → WritesCharacters ws ds → WritesCharacters (vs ++ ws) (cs ++ ds)
characters_append [] ws cs ds h k = subst (λ l. WritesCharacters ws (l ++ ds)) (sym h) k
characters_append (v ∷ vs) ws cs ds h k =
    (h.0, h.1 ++ ds, ap (λ l. l ++ ds) h.2 ∙ append_assoc h.0 h.1 ds, h.3, characters_append vs ws h.1 ds h.4 k)

-- one character alone
pub one_written : (v : ℕ) (cs : List ℕ) → WritesCharacter v cs → WritesCharacters (v ∷ []) cs
one_written v cs h = (cs, [], sym (append-nil cs), h, refl)

-- plain characters write themselves
pub plain_written : (cs : List ℕ) → Each is_plain cs → WritesCharacters cs cs
plain_written [] h = refl
plain_written (c ∷ cs) h = (c ∷ [], cs, refl, inl (refl, h.0), plain_written cs h.1)

-- what stands behind the front of a string's body
behind_body : (text : List ℕ) (at : ℕ) → 0 < at → drop (at - 1) (drop 1 text) ≡ drop at text
behind_body text at h = let e : 1 + (at - 1) ≡ at = omega arith in drop-drop (at - 1) 1 text ∙ ap (λ n. drop n text) e

-- more characters after the front of a string's body
pub string_more : (text : List ℕ) (at n : ℕ) (vs ws : List ℕ) → 0 < at → WritesCharacters vs (take (at - 1) (drop 1 text))
    → WritesCharacters ws (take n (drop at text)) → WritesCharacters (vs ++ ws) (take (at + n - 1) (drop 1 text))
string_more text at n vs ws h k w =
    let e : at + n - 1 ≡ (at - 1) + n = omega arith in
    let front = ap (λ m. take m (drop 1 text)) e ∙ take-add (at - 1) n (drop 1 text) ∙ ap (λ l. take (at - 1) (drop 1 text) ++ take n l) (behind_body text at h) in
    subst (WritesCharacters (vs ++ ws)) (sym front) (characters_append vs ws (take (at - 1) (drop 1 text)) (take n (drop at text)) k w)

-- a string's front, where it begins with a quote
body_front : (text : List ℕ) (at : ℕ) → begins (λ c. c == quote) text ≡ true → 0 < at → take at text ≡ quote ∷ take (at - 1) (drop 1 text)
body_front text at first behind =
    let (q, more, text_is, test) = begins_so (λ c. c == quote) text first in
    let split : at ≡ 1 + (at - 1) = omega arith in
    ap (λ n. take n text) split ∙ take-add 1 (at - 1) text
    ∙ ap (λ l. l ++ take (at - 1) (drop 1 text)) (ap (take 1) text_is ∙ ap (λ d. d ∷ []) (eqb-true q quote test))

-- where the front of a body was read, and the quote follows, a string begins
pub string_ends : (text : List ℕ) (at : ℕ) (vs : List ℕ) → begins (λ c. c == quote) text ≡ true → 0 < at → WritesCharacters vs (take (at - 1) (drop 1 text))
    → begins (λ c. c == quote) (drop at text) ≡ true → IsStringAt text (encode_utf8_all vs) (at + 1)
string_ends text at vs first behind so_far ends =
    let (c, left, e, q) = begins_so (λ c. c == quote) (drop at text) ends in (
      omega (arith, ap length e, length-drop at text),
      (
        vs,
        (
          take (at - 1) (drop 1 text),
          take-add at 1 text ∙ ap (λ l. l ++ take 1 (drop at text)) (body_front text at first behind)
              ∙ ap (λ l. (quote ∷ take (at - 1) (drop 1 text)) ++ l) (ap (take 1) e ∙ ap (λ d. d ∷ []) (eqb-true c quote q)),
          so_far,
        ),
        refl,
      ),
    )

-- where the front of a body was read, and neither a character nor the quote follows, no string begins
pub no_string_behind : (text : List ℕ) (at : ℕ) (vs : List ℕ) → begins (λ c. c == quote) text ≡ true → 0 < at → WritesCharacters vs (take (at - 1) (drop 1 text))
    → begins (λ c. c == quote) (drop at text) ≡ false
    → ((v : ℕ) (cs rest : List ℕ) → drop at text ≡ cs ++ rest → WritesCharacter v cs → ⊥) → NoString text
no_string_behind text at vs first h k ends none value cs rest e string =
    let body = drop 1 text in
    let whole : take (at - 1) body ++ drop at text ≡ string.0 ++ quote ∷ rest =
    ap (λ l. take (at - 1) body ++ l) (sym (behind_body text at h)) ∙ take-append-drop (at - 1) body
    ∙ ap (drop 1) (e ∙ ap (λ l. l ++ rest) string.1) ∙ append_assoc string.0 (quote ∷ []) rest in
    let more = characters_split vs value (take (at - 1) body) string.0 (drop at text) rest k string.2 whole in
    go more.0 more.1 more.4 more.5
  where
    go : (us left : List ℕ) → drop at text ≡ left ++ quote ∷ rest → WritesCharacters us left → ⊥
    go [] left is w = let no_quote = sym ends ∙ ap (begins (λ c. c == quote)) (is ∙ ap (λ l. l ++ quote ∷ rest) w) in cc
    go (u ∷ us) left is w = none u w.0 (w.1 ++ quote ∷ rest) (is ∙ ap (λ l. l ++ quote ∷ rest) w.2 ∙ append_assoc w.0 w.1 (quote ∷ rest)) w.3

-- no character is written with nothing
pub nothing_written : (v : ℕ) (cs rest : List ℕ) → [] ≡ cs ++ rest → WritesCharacter v cs → ⊥
nothing_written v cs rest e h =
    let (c, more, is, kind) = first_written v cs h in
    let no_end : [] ≡ c ∷ more ++ rest = e ∙ ap (λ l. l ++ rest) is in cc
