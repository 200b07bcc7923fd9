-- One token of a text, and those after it.
use Rattle.std.proofs.Common.{◌≡◌, ℕ, ◌+◌, ◌≤◌, true, false, List, [], ◌∷◌, length, take, drop, refl, sym, ap, inl, inr, arith, take-append-drop, drop-drop, length-drop, length-take-le, subst, subst₂}
use Rattle.gql_base.specs.declared.pos.Pos.{Pos}
use Rattle.gql_tokens.specs.declared.token.Lexeme.{Lexeme}
use Rattle.gql_tokens.specs.declared.token.Lexeme.TheVariants as lexemes
use Rattle.gql_tokens.specs.declared.token.Token.{Token}
use Rattle.gql_tokens.specs.Characters.{is_source}
use Rattle.gql_tokens.specs.Gap.{IsGap}
use Rattle.gql_tokens.specs.Place.{place_after}
use Rattle.gql_tokens.specs.Token.{IsToken, is_final}
use Rattle.gql_tokens.specs.Lexer.{Finishes, Lexes, EndFinally}
use Rattle.gql_tokens.specs.Parts.{NoBlockEnds, StandsAt, IsStep}
use Rattle.gql_tokens.proofs.Lists.{Each}
use Rattle.gql_tokens.proofs.BlockEnds.{no_block_ends_behind}
use Rattle.gql_tokens.proofs.SourceLaws.{gap_source, spelling_source}
use Rattle.gql_tokens.proofs.LexerLaws.{token_not_empty}
use Rattle.gql_tokens.proofs.PlaceLaws.{place_after_bound}

-- how tokens end is final
pub finish_final : (l : Lexeme) (text : List ℕ) → Finishes l text → is_final l ≡ true
finish_final lexemes.End text h = refl
finish_final lexemes.Unexpected text h = refl
finish_final lexemes.Unsupported text h = refl
finish_final (lexemes.Punctuator p) text h = absurd h
finish_final (lexemes.Name p) text h = absurd h
finish_final (lexemes.Number p) text h = absurd h
finish_final (lexemes.String p) text h = absurd h

no_block_ends_left : (n : ℕ) (text : List ℕ) → Each is_source (take n text) → NoBlockEnds text → NoBlockEnds (drop n text)
no_block_ends_left n text source h =
    no_block_ends_behind (take n text) (drop n text) source (subst NoBlockEnds (sym (take-append-drop n text)) h)

-- what is known of block strings after what is ignored
pub known_behind_gap : (text : List ℕ) (gap : ℕ) → IsGap false (take gap text) (drop gap text) → NoBlockEnds text → NoBlockEnds (drop gap text)
known_behind_gap text gap h known = no_block_ends_left gap text (gap_source false (take gap text) (drop gap text) h) known

module _ (place : Pos) (text : List ℕ) (lexeme : Lexeme) (gap n : ℕ) (pos : Pos) (within : gap ≤ length text)
    (ignored : IsGap false (take gap text) (drop gap text)) (pos_is : pos ≡ place_after place (take gap text) (drop gap text))
    (stands : StandsAt lexeme n (drop gap text)) where
  -- the place after what is ignored
  pos_bound : (pos.line ≤ place.line + gap) × (pos.column ≤ place.column + gap)
  pos_bound =
      let bound = place_after_bound place (take gap text) (drop gap text) in
      let count = length-take-le gap text within in
      (omega (arith, ap (λ (p : Pos). p.line) pos_is, bound.0, count), omega (arith, ap (λ (p : Pos). p.column) pos_is, bound.1, count))

  -- the last token, after what is ignored
  pub last_step : is_final lexeme ≡ true → IsStep place text (record { lexeme = lexeme; pos = pos }) gap pos
  last_step final = record {
    within = within;
    last = λ _. (take gap text, drop gap text, sym (take-append-drop gap text), ignored, pos_is, inl (finishes, refl));
    some = λ more. absurd cc;
    more = λ more tokens h. absurd cc;
    line = pos_bound.0;
    column = pos_bound.1;
  }
    where
      finishes : Finishes lexeme (drop gap text)
      finishes = elim stands [ inl h ↦ h | inr h ↦ (let more = h.2 in absurd cc) ]

  module _ (more : is_final lexeme ≡ false) where
    token : (n ≤ length (drop gap text)) × IsToken lexeme (take n (drop gap text)) (drop n (drop gap text)) × (is_final lexeme ≡ false)
    token = elim stands [ inl h ↦ (let final = finish_final lexeme (drop gap text) h in absurd cc) | inr h ↦ h ]

    pub known_behind_token : NoBlockEnds (drop gap text) → NoBlockEnds (drop (gap + n) text)
    known_behind_token known =
        subst NoBlockEnds (drop-drop n gap text) (no_block_ends_left n (drop gap text) (spelling_source lexeme (take n (drop gap text)) token.1.spelled) known)

    -- a token that isn't the last, after what is ignored
    pub step_is : (behind : Pos) → behind ≡ place_after pos (take n (drop gap text)) (drop n (drop gap text))
        → IsStep place text (record { lexeme = lexeme; pos = pos }) (gap + n) behind
    step_is behind is = record {
      within = omega (arith, token.0, length-drop gap text, within);
      last = λ final. absurd cc;
      some = λ _. (let full : n ≡ 0 → ⊥ = λ e. token_not_empty lexeme (take n (drop gap text)) (drop n (drop gap text)) token.1 (ap (λ k. take k (drop gap text)) e) in omega arith);
      more = λ _ tokens h. (
        take gap text,
        drop gap text,
        sym (take-append-drop gap text),
        ignored,
        pos_is,
        inr (
          take n (drop gap text),
          drop n (drop gap text),
          sym (take-append-drop n (drop gap text)),
          token.1,
          more,
          subst₂ (λ p l. Lexes p l tokens) is (sym (drop-drop n gap text)) h,
        ),
      );
      line = omega (arith, ap (λ (p : Pos). p.line) is, bound.0, pos_bound.0, count);
      column = omega (arith, ap (λ (p : Pos). p.column) is, bound.1, pos_bound.1, count);
    }
      where
        count : length (take n (drop gap text)) ≡ n
        count = length-take-le n (drop gap text) token.0

        bound : ((place_after pos (take n (drop gap text)) (drop n (drop gap text))).line ≤ pos.line + length (take n (drop gap text)))
            × ((place_after pos (take n (drop gap text)) (drop n (drop gap text))).column ≤ pos.column + length (take n (drop gap text)))
        bound = place_after_bound pos (take n (drop gap text)) (drop n (drop gap text))

-- the last token is the only final one
pub lexes_end : (place : Pos) (text : List ℕ) (tokens : List Token) → Lexes place text tokens → EndFinally tokens
lexes_end place text [] h = h
lexes_end place text (t ∷ []) (gap, behind, a, b, c, inl h) = finish_final t.lexeme behind h.0
lexes_end place text (t ∷ []) (gap, behind, a, b, c, inr h) = absurd h.5
lexes_end place text (t ∷ u ∷ tokens) (gap, behind, a, b, c, inl h) = let none = h.1 in absurd cc
lexes_end place text (t ∷ u ∷ tokens) (gap, behind, a, b, c, inr h) = (h.4, lexes_end (place_after t.pos h.0 h.1) h.1 (u ∷ tokens) h.5)
