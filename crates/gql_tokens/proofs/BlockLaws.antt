-- Block strings: each is read in one way.
use Rattle.std.proofs.Common.{◌≡◌, ℕ, ◌+◌, ◌≤◌, Bool, true, false, List, [], ◌∷◌, ◌++◌, nat_eq, length, take, refl, sym, ap, ◌∙◌, arith, append_assoc, length-append, ◌==◌, drop, drop-drop, take-append-drop, subst, ap₂, eqb-true, take_at, length-drop, append-nil}
use Rattle.std.specs.Cmp.Lexicographic.{bytes_decides}
use Rattle.std.specs.List.{starts_with}
use lib.Pointwise.{pointwise}
use Rattle.std.proofs.lemmas.Bool.{eq-eqb}
use Rattle.std.proofs.lemmas.Bool.Decides.{nat_tests}
use Rattle.std.proofs.lemmas.List.{take-append-le}
use Rattle.gql_tokens.specs.Characters.{quote, backslash, is_source, begins}
use Rattle.gql_tokens.specs.Block.{three_quotes, escaped_quotes, Piece, written, raw_of, ArePieces, IsBlockString}
use Rattle.gql_tokens.specs.Block.Piece.{itself, quotes}
use Rattle.gql_tokens.specs.Parts.{is_bare, IsUnended, IsBodyAt}
use Rattle.gql_tokens.proofs.Lists.{head_is, tail_is, begins_so, Each}

-- pieces are read in one way, up to the quotes that end them
pub pieces_unique : (ps qs : List Piece) (x y : List ℕ) → ArePieces ps (three_quotes ++ x) → ArePieces qs (three_quotes ++ y)
    → written ps ++ (three_quotes ++ x) ≡ written qs ++ (three_quotes ++ y) → (ps ≡ qs) × (x ≡ y)
pieces_unique [] [] x y p q e = (refl, tail_is (tail_is (tail_is e)))
pieces_unique [] (itself d ∷ qs) x y p q e =
    let yes : starts_with nat_eq (three_quotes ++ x) three_quotes ≡ true = refl in
    let no = ap (λ l. starts_with nat_eq l three_quotes) e ∙ q.1 in cc
pieces_unique [] (quotes ∷ qs) x y p q e = let h : quote ≡ backslash = head_is e in absurd (omega arith)
pieces_unique (itself c ∷ ps) [] x y p q e =
    let yes : starts_with nat_eq (three_quotes ++ y) three_quotes ≡ true = refl in
    let no = ap (λ l. starts_with nat_eq l three_quotes) (sym e) ∙ p.1 in cc
pieces_unique (itself c ∷ ps) (itself d ∷ qs) x y p q e =
    let (same, rest) = pieces_unique ps qs x y p.3 q.3 (tail_is e) in ((let h = head_is e in cc), rest)
pieces_unique (itself c ∷ ps) (quotes ∷ qs) x y p q e =
    let yes : starts_with nat_eq (escaped_quotes ++ (written qs ++ (three_quotes ++ y))) escaped_quotes ≡ true = refl in
    let no = ap (λ l. starts_with nat_eq l escaped_quotes) (sym e) ∙ p.2 in cc
pieces_unique (quotes ∷ ps) [] x y p q e = let h : backslash ≡ quote = head_is e in absurd (omega arith)
pieces_unique (quotes ∷ ps) (itself d ∷ qs) x y p q e =
    let yes : starts_with nat_eq (escaped_quotes ++ (written ps ++ (three_quotes ++ x))) escaped_quotes ≡ true = refl in
    let no = ap (λ l. starts_with nat_eq l escaped_quotes) e ∙ q.2 in cc
pieces_unique (quotes ∷ ps) (quotes ∷ qs) x y p q e =
    let (same, rest) = pieces_unique ps qs x y p q (tail_is (tail_is (tail_is (tail_is e)))) in ((cc), rest)

-- what begins a long enough text begins it whatever follows
starts_same : (text rest word : List ℕ) → length word ≤ length text → starts_with nat_eq (text ++ rest) word ≡ starts_with nat_eq text word
starts_same text rest word h = ap (pointwise nat_eq word) (take-append-le (length word) text rest h)

-- the same where the quotes that end the pieces are in between
starts_before : (c : ℕ) (ps : List Piece) (x word : List ℕ) → length word ≤ 4
    → starts_with nat_eq (c ∷ written ps ++ (three_quotes ++ x)) word ≡ starts_with nat_eq (c ∷ written ps ++ three_quotes) word
starts_before c ps x word h =
    ap (λ l. starts_with nat_eq (c ∷ l) word) (sym (append_assoc (written ps) three_quotes x))
    ∙ starts_same (c ∷ written ps ++ three_quotes) x word (omega (arith, length-append (written ps) three_quotes))

-- after the quotes that end the pieces anything may follow
pub pieces_before : (ps : List Piece) (x : List ℕ) → ArePieces ps three_quotes → ArePieces ps (three_quotes ++ x)
pieces_before [] x p = tt
pieces_before (itself c ∷ ps) x p =
    (p.0, starts_before c ps x three_quotes (omega arith) ∙ p.1, starts_before c ps x escaped_quotes (omega arith) ∙ p.2, pieces_before ps x p.3)
pieces_before (quotes ∷ ps) x p = pieces_before ps x p

pub pieces_alone : (ps : List Piece) (x : List ℕ) → ArePieces ps (three_quotes ++ x) → ArePieces ps three_quotes
pieces_alone [] x p = tt
pieces_alone (itself c ∷ ps) x p =
    (p.0, sym (starts_before c ps x three_quotes (omega arith)) ∙ p.1, sym (starts_before c ps x escaped_quotes (omega arith)) ∙ p.2, pieces_alone ps x p.3)
pieces_alone (quotes ∷ ps) x p = pieces_alone ps x p

-- a block string is read in one way, whatever follows it
pub block_unique : (v w p q x y : List ℕ) → IsBlockString v p → IsBlockString w q → p ++ x ≡ q ++ y → (v ≡ w) × (p ≡ q) × (x ≡ y)
block_unique v w p q x y h k e =
    let whole : three_quotes ++ (written h.0 ++ (three_quotes ++ x)) ≡ three_quotes ++ (written k.0 ++ (three_quotes ++ y)) =
    ap (λ l. three_quotes ++ l) (sym (append_assoc (written h.0) three_quotes x)) ∙ ap (λ l. l ++ x) (sym h.1) ∙ e
    ∙ ap (λ l. l ++ y) k.1 ∙ ap (λ l. three_quotes ++ l) (append_assoc (written k.0) three_quotes y) in
    let (same, rest) = pieces_unique h.0 k.0 x y (pieces_before h.0 x h.2) (pieces_before k.0 y k.2) (tail_is (tail_is (tail_is whole))) in
    let hp = h.1 in let kq = k.1 in let hv = h.3 in let kw = k.3 in
    ((cc), (cc), rest)

pub written-append : (ps qs : List Piece) → written (ps ++ qs) ≡ written ps ++ written qs
written-append [] qs = refl
written-append (itself c ∷ ps) qs = ap (λ l. c ∷ l) (written-append ps qs)
written-append (quotes ∷ ps) qs = ap (λ l. escaped_quotes ++ l) (written-append ps qs)

pub raw_of-append : (ps qs : List Piece) → raw_of (ps ++ qs) ≡ raw_of ps ++ raw_of qs
raw_of-append [] qs = refl
raw_of-append (itself c ∷ ps) qs = ap (λ l. c ∷ l) (raw_of-append ps qs)
raw_of-append (quotes ∷ ps) qs = ap (λ l. three_quotes ++ l) (raw_of-append ps qs)

pub pieces_append : (ps qs : List Piece) (rest : List ℕ) → ArePieces ps (written qs ++ rest) → ArePieces qs rest → ArePieces (ps ++ qs) rest
pieces_append [] qs rest h k = k
pieces_append (itself c ∷ ps) qs rest h k =
    let same : written (ps ++ qs) ++ rest ≡ written ps ++ (written qs ++ rest) =
    ap (λ l. l ++ rest) (written-append ps qs) ∙ append_assoc (written ps) (written qs) rest in (
      h.0,
      ap (λ l. starts_with nat_eq (c ∷ l) three_quotes) same ∙ h.1,
      ap (λ l. starts_with nat_eq (c ∷ l) escaped_quotes) same ∙ h.2,
      pieces_append ps qs rest h.3 k,
    )
pieces_append (quotes ∷ ps) qs rest h k = pieces_append ps qs rest h k

-- What was read of the pieces begins every reading of them up to the quotes.
pub pieces_split : (ps qs : List Piece) (x y : List ℕ) → ArePieces ps x → ArePieces qs (three_quotes ++ y)
    → written ps ++ x ≡ written qs ++ (three_quotes ++ y)
    → (us : List Piece) × (qs ≡ ps ++ us) × (x ≡ written us ++ (three_quotes ++ y)) × ArePieces us (three_quotes ++ y)
pieces_split [] qs x y h k e = (qs, refl, e, k)
pieces_split (itself c ∷ ps) [] x y h k e =
    let yes : starts_with nat_eq (three_quotes ++ y) three_quotes ≡ true = refl in
    let other = ap (λ l. starts_with nat_eq l three_quotes) (sym e) ∙ h.1 in absurd cc
pieces_split (itself c ∷ ps) (itself d ∷ qs) x y h k e =
    let more = pieces_split ps qs x y h.3 k.3 (tail_is e) in
    (more.0, (let same = more.1 in let head = head_is e in cc), more.2, more.3)
pieces_split (itself c ∷ ps) (quotes ∷ qs) x y h k e =
    let yes : starts_with nat_eq (escaped_quotes ++ (written qs ++ (three_quotes ++ y))) escaped_quotes ≡ true = refl in
    let other = ap (λ l. starts_with nat_eq l escaped_quotes) (sym e) ∙ h.2 in absurd cc
pieces_split (quotes ∷ ps) [] x y h k e = let f : backslash ≡ quote = head_is e in absurd (omega arith)
pieces_split (quotes ∷ ps) (itself d ∷ qs) x y h k e =
    let yes : starts_with nat_eq (escaped_quotes ++ (written ps ++ x)) escaped_quotes ≡ true = refl in
    let other = ap (λ l. starts_with nat_eq l escaped_quotes) e ∙ k.2 in absurd cc
pieces_split (quotes ∷ ps) (quotes ∷ qs) x y h k e =
    let more = pieces_split ps qs x y h k (tail_is (tail_is (tail_is (tail_is e)))) in
    (more.0, (let same = more.1 in cc), more.2, more.3)

-- where neither a piece nor the quotes stand behind the pieces that were read, the block string has no end
pub unended_behind : (text x : List ℕ) (ps : List Piece) → text ≡ written ps ++ x → ArePieces ps x → begins is_source x ≡ false → IsUnended text
unended_behind text x ps e h ends qs rest f k = go more.0 more.2 more.3
  where
    more : (us : List Piece) × (qs ≡ ps ++ us) × (x ≡ written us ++ (three_quotes ++ rest)) × ArePieces us (three_quotes ++ rest)
    more = pieces_split ps qs x rest h k (sym e ∙ f)

    go : (us : List Piece) → x ≡ written us ++ (three_quotes ++ rest) → ArePieces us (three_quotes ++ rest) → ⊥
    go [] is w = let b = sym ends ∙ ap (begins is_source) is in cc
    go (itself c ∷ us) is w = let b = sym ends ∙ ap (begins is_source) is in let s = w.0 in cc
    go (quotes ∷ us) is w = let b = sym ends ∙ ap (begins is_source) is in cc

-- the characters after the word that a text begins with
pub starts_gives : (text word : List ℕ) → starts_with nat_eq text word ≡ true → text ≡ word ++ drop (length word) text
starts_gives text word h =
    sym (take-append-drop (length word) text) ∙ ap (λ l. l ++ drop (length word) text) (sym ((bytes_decides word (take (length word) text)).0 h))

-- some pieces of a block string, up to a place
pub record IsWithin (text raw : List ℕ) (at : ℕ) : Type 0 where
  pub pieces : List Piece
  pub raw_is : raw ≡ raw_of pieces
  pub text_is : text ≡ three_quotes ++ (written pieces ++ drop at text)
  pub are_pieces : ArePieces pieces (drop at text)

pub within_start : (text : List ℕ) → starts_with nat_eq text three_quotes ≡ true → IsWithin text [] 3
within_start text h = record { pieces = []; raw_is = refl; text_is = starts_gives text three_quotes h; are_pieces = tt }

-- one piece more
within_more : (text raw : List ℕ) (at next : ℕ) (piece : List Piece) → IsWithin text raw at → drop at text ≡ written piece ++ drop next text
    → ArePieces piece (drop next text) → IsWithin text (raw ++ raw_of piece) next
within_more text raw at next piece h e k = record {
  pieces = h.pieces ++ piece;
  raw_is = ap (λ l. l ++ raw_of piece) h.raw_is ∙ sym (raw_of-append h.pieces piece);
  text_is =
      h.text_is
      ∙ ap (λ l. three_quotes ++ l) (ap (λ l. written h.pieces ++ l) e ∙ sym (append_assoc (written h.pieces) (written piece) (drop next text)) ∙ ap (λ l. l ++ drop next text) (sym (written-append h.pieces piece)));
  are_pieces = pieces_append h.pieces piece (drop next text) (subst (ArePieces h.pieces) e h.are_pieces) k;
}

pub within_quotes : (text raw : List ℕ) (at : ℕ) → IsWithin text raw at → starts_with nat_eq (drop at text) escaped_quotes ≡ true
    → IsWithin text (raw ++ three_quotes) (at + 4)
within_quotes text raw at h k =
    within_more text raw at (at + 4) (quotes ∷ []) h (starts_gives (drop at text) escaped_quotes k ∙ ap (λ l. escaped_quotes ++ l) (drop-drop 4 at text)) tt

pub within_itself : (text raw : List ℕ) (at c : ℕ) → IsWithin text raw at → begins (λ d. d == c) (drop at text) ≡ true → is_source c ≡ true
    → starts_with nat_eq (drop at text) three_quotes ≡ false → starts_with nat_eq (drop at text) escaped_quotes ≡ false
    → IsWithin text (raw ++ c ∷ []) (at + 1)
within_itself text raw at c h first source p q =
    let (d, rest, is, same) = begins_so (λ d. d == c) (drop at text) first in
    let behind : rest ≡ drop (at + 1) text = sym (ap (drop 1) is) ∙ drop-drop 1 at text in
    let whole : drop at text ≡ c ∷ drop (at + 1) text = is ∙ ap₂ ◌∷◌ (eqb-true d c same) behind in
    within_more text raw at (at + 1) (itself c ∷ []) h whole (
      source,
      ap (λ l. starts_with nat_eq l three_quotes) (sym whole) ∙ p,
      ap (λ l. starts_with nat_eq l escaped_quotes) (sym whole) ∙ q,
      tt,
    )

-- such a character is no quote and no backslash
bare_source : (c : ℕ) → is_bare c ≡ true → is_source c ≡ true
bare_source c h = grind (arith, nat_tests)

bare_not_quote : (c : ℕ) → is_bare c ≡ true → c ≡ quote → ⊥
bare_not_quote c h e = grind (arith, nat_tests)

bare_not_backslash : (c : ℕ) → is_bare c ≡ true → c ≡ backslash → ⊥
bare_not_backslash c h e = grind (arith, nat_tests)

-- a word that begins with another character doesn't begin the text
other_start : (c : ℕ) (cs : List ℕ) (d : ℕ) (ds : List ℕ) → (c ≡ d → ⊥) → starts_with nat_eq (c ∷ cs) (d ∷ ds) ≡ false
other_start c cs d ds h = go (starts_with nat_eq (c ∷ cs) (d ∷ ds)) refl
  where
    go : (b : Bool) → starts_with nat_eq (c ∷ cs) (d ∷ ds) ≡ b → starts_with nat_eq (c ∷ cs) (d ∷ ds) ≡ false
    go true e = absurd (h (head_is (starts_gives (c ∷ cs) (d ∷ ds) e)))
    go false e = e

-- characters that stand for themselves, whatever follows them
pub within_bare : (text raw : List ℕ) (at : ℕ) (cs rest : List ℕ) → IsWithin text raw at → drop at text ≡ cs ++ rest → Each is_bare cs
    → IsWithin text (raw ++ cs) (at + length cs)
within_bare text raw at [] rest h e bare =
    let none : at ≡ at + 0 = omega arith in
    subst (λ l. IsWithin text l (at + 0)) (sym (append-nil raw)) (subst (IsWithin text raw) none h)
within_bare text raw at (c ∷ cs) rest h e bare =
    let behind : drop (at + 1) text ≡ cs ++ rest = sym (drop-drop 1 at text) ∙ ap (drop 1) e in
    let more = within_bare text (raw ++ c ∷ []) (at + 1) cs rest
    (within_itself text raw at c h (ap (begins (λ d. d == c)) e ∙ eq-eqb c c refl) (bare_source c bare.0)
    (ap (λ l. starts_with nat_eq l three_quotes) e ∙ other_start c (cs ++ rest) quote (quote ∷ quote ∷ []) (bare_not_quote c bare.0))
    (ap (λ l. starts_with nat_eq l escaped_quotes) e ∙ other_start c (cs ++ rest) backslash three_quotes (bare_not_backslash c bare.0)))
    behind bare.1 in
    let size : at + 1 + length cs ≡ at + length (c ∷ cs) = omega arith in
    subst (λ l. IsWithin text l (at + length (c ∷ cs))) (append_assoc raw (c ∷ []) cs) (subst (IsWithin text ((raw ++ c ∷ []) ++ cs)) size more)

pub within_body : (text raw : List ℕ) (at : ℕ) → at ≤ length text → IsWithin text raw at → starts_with nat_eq (drop at text) three_quotes ≡ true
    → IsBodyAt text raw (at + 3)
within_body text raw at short h k =
    let back : drop at text ≡ three_quotes ++ drop (at + 3) text = starts_gives (drop at text) three_quotes k ∙ ap (λ l. three_quotes ++ l) (drop-drop 3 at text) in
    let spelling = three_quotes ++ (written h.pieces ++ three_quotes) in
    let whole : text ≡ spelling ++ drop (at + 3) text =
    h.text_is ∙ ap (λ l. three_quotes ++ l) (ap (λ l. written h.pieces ++ l) back ∙ sym (append_assoc (written h.pieces) three_quotes (drop (at + 3) text))) in
    let total = ap length h.text_is in
    let behind = length-drop at text in
    let rest = ap length back in
    let joined = length-append (written h.pieces) (drop at text) in
    let ended = length-append (written h.pieces) three_quotes in
    let size : length spelling ≡ at + 3 = omega arith in (
      omega arith,
      (
        h.pieces,
        ap (take (at + 3)) whole ∙ take_at spelling (drop (at + 3) text) (at + 3) size,
        pieces_alone h.pieces (drop (at + 3) text) (subst (ArePieces h.pieces) back h.are_pieces),
        h.raw_is,
      ),
    )

pub within_unended : (text raw : List ℕ) (at : ℕ) → IsWithin text raw at → begins is_source (drop at text) ≡ false → IsUnended (drop 3 text)
within_unended text raw at h ends = unended_behind (drop 3 text) (drop at text) h.pieces (ap (drop 3) h.text_is) h.are_pieces ends

pub escaped_fits : (text : List ℕ) (at : ℕ) → starts_with nat_eq (drop at text) escaped_quotes ≡ true → at + 4 ≤ length text
escaped_fits text at h = omega (arith, ap length (starts_gives (drop at text) escaped_quotes h), length-drop at text)
