-- Where one block string has no end, none that begins after it has.
use Rattle.std.proofs.Common.{◌≡◌, ℕ, ◌≤◌, Bool, true, false, ◌⊎◌, List, [], ◌∷◌, ◌++◌, nat_eq, drop, length, refl, sym, ap, ◌∙◌, inl, inr, arith, subst, append_assoc, ap₂, take, take-append-drop, length-append}
use Rattle.std.proofs.lemmas.List.{drop-append-le}
use Rattle.std.specs.List.{starts_with}
use Rattle.gql_tokens.specs.Characters.{quote, backslash, is_source}
use Rattle.gql_tokens.specs.Block.{three_quotes, escaped_quotes, Piece, written, ArePieces}
use Rattle.gql_tokens.specs.Block.Piece.{itself, quotes}
use Rattle.gql_tokens.specs.Parts.{IsUnended, NoBlockEnds}
use Rattle.gql_tokens.proofs.Lists.{head_is, tail_is, fronts, Each, each_back, each_append}
use Rattle.gql_tokens.proofs.BlockLaws.{starts_gives}

-- the quotes that end a block string stand in the text
pub record Ends (text : List ℕ) : Type 0 where
  pub pieces : List Piece
  pub rest : List ℕ
  pub text_is : text ≡ written pieces ++ (three_quotes ++ rest)
  pub are_pieces : ArePieces pieces (three_quotes ++ rest)

-- one quote or two, or none
abbrev FewQuotes : List ℕ → Type 0
FewQuotes cs = (cs ≡ []) ⊎ ((cs ≡ quote ∷ []) ⊎ (cs ≡ quote ∷ quote ∷ []))

-- no backslash escapes what follows the characters
abbrev pub IsClosed : List ℕ → Type 0
IsClosed [] = Unit {0}
IsClosed (c ∷ cs) = (c ≡ backslash → FewQuotes cs → ⊥) × IsClosed cs

few_quotes : (f : List ℕ) (d : ℕ) (m : List ℕ) → three_quotes ≡ f ++ d ∷ m → FewQuotes f
few_quotes [] d m e = inl refl
few_quotes (a ∷ []) d m e = inr (inl (let h = head_is e in cc))
few_quotes (a ∷ b ∷ []) d m e = inr (inr (let h = head_is e in let k = head_is (tail_is e) in cc))
few_quotes (a ∷ b ∷ c ∷ f) d m e = go f (tail_is (tail_is (tail_is e)))
  where
    go : (g : List ℕ) → [] ≡ g ++ d ∷ m → FewQuotes (a ∷ b ∷ c ∷ f)
    go [] k = cc
    go (h ∷ g) k = cc

-- One character more in front: it begins a piece, or the quotes that end the string.
ends_more : (c : ℕ) (f x : List ℕ) → is_source c ≡ true → (c ≡ backslash → FewQuotes f → ⊥) → Ends (f ++ x)
    → ((g : List ℕ) → f ≡ three_quotes ++ g → Ends (g ++ x)) → Ends (c ∷ f ++ x)
ends_more c f x source closed behind skipped = go (starts_with nat_eq (c ∷ f ++ x) three_quotes) (starts_with nat_eq (c ∷ f ++ x) escaped_quotes) refl refl
  where
    skip : c ≡ backslash → (g : List ℕ) → f ≡ three_quotes ++ g → Ends (c ∷ f ++ x)
    skip backslash_is g e =
        let more = skipped g e in
        record {
          pieces = quotes ∷ more.pieces;
          rest = more.rest;
          text_is = ap (λ l. l ++ x) (ap₂ ◌∷◌ backslash_is e) ∙ ap (λ l. escaped_quotes ++ l) more.text_is;
          are_pieces = more.are_pieces;
        }

    go : (a b : Bool) → starts_with nat_eq (c ∷ f ++ x) three_quotes ≡ a → starts_with nat_eq (c ∷ f ++ x) escaped_quotes ≡ b → Ends (c ∷ f ++ x)
    go true b p q = record { pieces = []; rest = drop 3 (c ∷ f ++ x); text_is = starts_gives (c ∷ f ++ x) three_quotes p; are_pieces = tt }
    go false true p q =
        let whole = starts_gives (c ∷ f ++ x) escaped_quotes q in
        let back = drop 4 (c ∷ f ++ x) in
        elim (fronts three_quotes f back x (sym (tail_is whole))) [
          | inl w ↦ skip (head_is whole) w.0 w.1
          | inr w ↦ absurd (closed (head_is whole) (few_quotes f w.0 w.1 w.2))
        ]
    go false false p q = record {
      pieces = itself c ∷ behind.pieces;
      rest = behind.rest;
      text_is = ap (λ l. c ∷ l) behind.text_is;
      are_pieces = (
        source,
        ap (λ l. starts_with nat_eq (c ∷ l) three_quotes) (sym behind.text_is) ∙ p,
        ap (λ l. starts_with nat_eq (c ∷ l) escaped_quotes) (sym behind.text_is) ∙ q,
        behind.are_pieces,
      );
    }

-- where a block string's end stands after some characters, it has one from them on
ends_later : (front x : List ℕ) → Each is_source front → IsClosed front → Ends x → Ends (front ++ x)
ends_later [] x h k e = e
ends_later (a ∷ []) x h k e = ends_more a [] x h.0 k.0 e (λ g is. cc)
ends_later (a ∷ b ∷ []) x h k e = ends_more a (b ∷ []) x h.0 k.0 (ends_later (b ∷ []) x h.1 k.1 e) (λ g is. cc)
ends_later (a ∷ b ∷ c ∷ []) x h k e = ends_more a (b ∷ c ∷ []) x h.0 k.0 (ends_later (b ∷ c ∷ []) x h.1 k.1 e) (λ g is. cc)
ends_later (a ∷ b ∷ c ∷ d ∷ front) x h k e =
    ends_more a (b ∷ c ∷ d ∷ front) x h.0 k.0 (ends_later (b ∷ c ∷ d ∷ front) x h.1 k.1 e)
    (λ g is. subst (λ l. Ends (l ++ x)) (tail_is (tail_is (tail_is is))) (ends_later front x h.1.1.1.1 k.1.1.1.1 e))

-- three quotes close what stands before them
closed_by_quotes : (front : List ℕ) → IsClosed (front ++ three_quotes)
closed_by_quotes [] = ((λ e f. let k : quote ≡ backslash = e in absurd (omega arith)), ((λ e f. absurd (omega arith)), ((λ e f. absurd (omega arith)), tt)))
closed_by_quotes (c ∷ front) = ((λ e f. not_few front f), closed_by_quotes front)
  where
    not_few : (f : List ℕ) → FewQuotes (f ++ three_quotes) → ⊥
    not_few f (inl e) = omega (arith, ap length e, length-append f three_quotes)
    not_few f (inr (inl e)) = omega (arith, ap length e, length-append f three_quotes)
    not_few f (inr (inr e)) = omega (arith, ap length e, length-append f three_quotes)

closed_behind : (a b : List ℕ) → IsClosed (a ++ b) → IsClosed b
closed_behind [] b h = h
closed_behind (c ∷ a) b h = closed_behind a b h.1

-- after a block string with no end none has an end
pub no_block_ends : (text behind : List ℕ) → text ≡ three_quotes ++ behind → IsUnended behind → NoBlockEnds text
no_block_ends text behind e unended front rest source is pieces more text_is are_pieces =
    let whole = front ++ three_quotes in
    let left = drop 3 whole in
    let long : 3 ≤ length whole = omega (arith, length-append front three_quotes) in
    let quotes_source : Each is_source three_quotes = (refl, (refl, (refl, tt))) in
    let cut = take-append-drop 3 whole in
    let all = each_append is_source front three_quotes source quotes_source in
    let ends = ends_later left rest
    (each_back is_source (take 3 whole) left (subst (Each is_source) (sym cut) all))
    (closed_behind (take 3 whole) left (subst IsClosed (sym cut) (closed_by_quotes front)))
    (record { pieces = pieces; rest = more; text_is = text_is; are_pieces = are_pieces }) in
    let same : behind ≡ left ++ rest = ap (drop 3) (sym e ∙ is ∙ sym (append_assoc front three_quotes rest)) ∙ drop-append-le 3 whole rest long in
    unended ends.pieces ends.rest (same ∙ ends.text_is) ends.are_pieces

-- none in a text, none in what is left of it
pub no_block_ends_behind : (piece text : List ℕ) → Each is_source piece → NoBlockEnds (piece ++ text) → NoBlockEnds text
no_block_ends_behind piece text source h front rest more is =
    h (piece ++ front) rest (each_append is_source piece front source more)
    (ap (λ l. piece ++ l) is ∙ sym (append_assoc piece front (three_quotes ++ rest)))
