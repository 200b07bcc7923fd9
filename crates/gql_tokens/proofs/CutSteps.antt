-- One token of a text's bytes, and those after it.
use Rattle.std.proofs.Common.{◌≡◌, ℕ, ◌+◌, ◌≤◌, Bool, true, false, List, [], ◌∷◌, ◌++◌, length, take, drop, sym, ap, ◌∙◌, inl, inr, arith, drop-drop, length-take-le, subst, append_assoc}
use Rattle.std.specs.Str.{chars, IsUtf8, IsCharBoundary}
use Rattle.std.proofs.lemmas.Str.{IsCharBoundary-from_rest}
use Rattle.gql_base.specs.declared.pos.Pos.{Pos}
use Rattle.gql_tokens.specs.declared.token.Lexeme.{Lexeme}
use Rattle.gql_tokens.specs.declared.token.Token.{Token}
use Rattle.gql_tokens.specs.declared.reaching.Reached.{Reached}
use Rattle.gql_tokens.specs.Place.{place_after}
use Rattle.gql_tokens.specs.Token.{Spells, is_final}
use Rattle.gql_tokens.specs.Lexer.{Lexes}
use Rattle.gql_tokens.specs.Parts.{NoBlockEnds, StandsAt}
use Rattle.gql_tokens.specs.Cut.{IsCut, IsGapIn, StandsIn, IsStepIn}
use Rattle.gql_tokens.specs.Reaching.{left, IsReached, IsNext}
use Rattle.gql_tokens.proofs.Lists.{Each, each_same}
use Rattle.gql_tokens.proofs.PlaceLaws.{IsUnbroken, at_column, place_after_unbroken}
use Rattle.gql_tokens.proofs.StepLaws.{finish_final, known_behind_gap, known_behind_token, last_step, step_is}
use Rattle.gql_tokens.proofs.CutLemmas.{cut_behind, cut_bytes}
use Rattle.gql_tokens.proofs.Ascii.{is_small, punctuator_small, name_small, integer_small, small_bytes}

-- a punctuator, a name and a number are written in ASCII
spelled_small : (l : Lexeme) (cs : List ℕ) → Spells l cs → IsUnbroken l → Each is_small cs
spelled_small l cs h (inl e) = each_same is_small (sym (subst (λ k. Spells k cs) e.1 h)) (punctuator_small e.0)
spelled_small l cs h (inr (inl e)) = name_small cs (subst (λ k. Spells k cs) e.1 h).0
spelled_small l cs h (inr (inr e)) = integer_small cs (subst (λ k. Spells k cs) e.1 h).0

-- the place after the bytes of a punctuator, a name or a number
pub place_unbroken : (pos : Pos) (l : Lexeme) (bytes : List ℕ) (k n : ℕ) → IsUtf8 bytes → k ≤ length bytes → IsUnbroken l → IsCut bytes k n
    → Spells l (take n (chars bytes)) → at_column pos (pos.column + k) ≡ place_after pos (take n (chars bytes)) (drop n (chars bytes))
place_unbroken pos l bytes k n h within unbroken cut spelled =
    let cs = take n (chars bytes) in
    let count : k ≡ length cs =
    sym (length-take-le k bytes within) ∙ ap length (cut_bytes bytes k n h cut ∙ small_bytes cs (spelled_small l cs spelled unbroken)) in
    ap (λ c. at_column pos (pos.column + c)) count ∙ sym (place_after_unbroken pos l cs (drop n (chars bytes)) spelled unbroken)

-- what is known of block strings after what is ignored
pub known_behind_gap_in : (place : Pos) (bytes : List ℕ) (k : ℕ) (pos : Pos) → IsGapIn place bytes k pos → NoBlockEnds (chars bytes) → NoBlockEnds (chars (drop k bytes))
known_behind_gap_in place bytes k pos gap known = subst NoBlockEnds (sym gap.1.behind) (known_behind_gap (chars bytes) gap.0 gap.2 known)

-- the place after a token of so many bytes at the front of a text
abbrev pub IsPlaceBehind : Lexeme → Pos → List ℕ → ℕ → Pos → Type 0
IsPlaceBehind lexeme pos bytes j behind =
    (n : ℕ) → IsCut bytes j n → Spells lexeme (take n (chars bytes)) → behind ≡ place_after pos (take n (chars bytes)) (drop n (chars bytes))

module _ (place : Pos) (bytes : List ℕ) (lexeme : Lexeme) (k j : ℕ) (pos : Pos) (h : IsUtf8 bytes) (gap : IsGapIn place bytes k pos)
    (stands : StandsIn lexeme j (drop k bytes)) where
  -- what stands behind the characters that are ignored
  stands_behind : StandsAt lexeme stands.0 (drop gap.0 (chars bytes))
  stands_behind = subst (StandsAt lexeme stands.0) gap.1.behind stands.2

  -- the last token, after what is ignored
  pub last_step_in : is_final lexeme ≡ true → IsStepIn place bytes (record { lexeme = lexeme; pos = pos }) k pos
  last_step_in final = (gap.0, gap.1, last_step place (chars bytes) lexeme gap.0 stands.0 pos gap.1.within gap.2 gap.3 stands_behind final)

  module _ (more : is_final lexeme ≡ false) where
    step_cut : IsCut bytes (k + j) (gap.0 + stands.0)
    step_cut = cut_behind bytes k gap.0 j stands.0 h gap.1 stands.1

    spelled : Spells lexeme (take stands.0 (chars (drop k bytes)))
    spelled = elim stands.2 [ inl h ↦ (let final = finish_final lexeme (chars (drop k bytes)) h in absurd cc) | inr h ↦ h.1.spelled ]

    pub known_behind_token_in : NoBlockEnds (chars (drop k bytes)) → NoBlockEnds (chars (drop (k + j) bytes))
    known_behind_token_in known =
        subst NoBlockEnds (sym step_cut.behind)
        (known_behind_token place (chars bytes) lexeme gap.0 stands.0 pos gap.1.within gap.2 gap.3 stands_behind more (subst NoBlockEnds gap.1.behind known))

    -- a token that isn't the last, after what is ignored
    pub step_in : (behind : Pos) → IsPlaceBehind lexeme pos (drop k bytes) j behind → IsStepIn place bytes (record { lexeme = lexeme; pos = pos }) (k + j) behind
    step_in behind exact =
        let m = stands.0 in
        let is = exact m stands.1 spelled ∙ ap (λ l. place_after pos (take m l) (drop m l)) gap.1.behind in
        (gap.0 + m, step_cut, step_is place (chars bytes) lexeme gap.0 m pos gap.1.within gap.2 gap.3 stands_behind more behind is)

-- a step after bytes that were read
module _ (bytes : List ℕ) (at : ℕ) (here : Pos) (token : Token) (k : ℕ) (behind : Pos) (step : IsStepIn here (drop at bytes) token k behind) where
  pub boundary_behind : IsCharBoundary bytes at → IsCharBoundary bytes (at + k)
  boundary_behind boundary = IsCharBoundary-from_rest bytes at k boundary.0 step.1.boundary

  -- what stands behind the token follows it
  pub step_more : is_final token.lexeme ≡ false → (tokens : List Token) → Lexes behind (left bytes (at + k)) tokens → Lexes here (left bytes at) (token ∷ tokens)
  step_more more tokens h = step.2.more more tokens (subst (λ l. Lexes behind l tokens) (ap chars (sym (drop-drop k at bytes)) ∙ step.1.behind) h)

  -- the tokens so far, one more and those after it
  pub more_tokens : (start : Pos) (tokens : List Token) → is_final token.lexeme ≡ false
      → ((more : List Token) → Lexes here (left bytes at) more → Lexes start (chars bytes) (tokens ++ more))
      → (more : List Token) → Lexes behind (left bytes (at + k)) more → Lexes start (chars bytes) ((tokens ++ token ∷ []) ++ more)
  more_tokens start tokens on so_far more h =
      subst (Lexes start (chars bytes)) (sym (append_assoc tokens (token ∷ []) more)) (so_far (token ∷ more) (step_more on more h))

-- what is reached with one more token
module _ (text : List ℕ) (here : Reached) (token : Token) (k : ℕ) (place : Pos) (blocks_end : Bool) (reached : IsReached text here)
    (step : IsStepIn here.place (drop here.at text) token k place) where
  pub reached_behind : (blocks_end ≡ false → NoBlockEnds (chars (drop k (drop here.at text))))
      → IsReached text (record { at = here.at + k; place = place; blocks_end = blocks_end })
  reached_behind known = record {
    boundary = boundary_behind text here.at here.place token k place step reached.boundary;
    line = omega (arith, step.2.line, step.1.fewer, reached.line);
    column = omega (arith, step.2.column, step.1.fewer, reached.column);
    known = λ off. subst NoBlockEnds (ap chars (drop-drop k here.at text)) (known off);
  }

  pub step_next : IsNext text here token (record { at = here.at + k; place = place; blocks_end = blocks_end })
  step_next = record {
    last = step.2.last;
    some = λ more. omega (arith, step.2.some more, step.1.fewer);
    more = step_more text here.at here.place token k place step;
  }
