-- The readers where no level is left: an opening token is too deep.
use Rattle.std.proofs.Common.{true, [], ◌∷◌, ◌++◌, refl, ap, ◌∙◌}
use Rattle.gql_base.specs.declared.pos.Pos.{Pos}
use Rattle.gql_tokens.specs.declared.token.Lexeme.TheVariants as lexeme
use Rattle.gql_tokens.specs.declared.token.Punctuator.{Punctuator}
use Rattle.gql_doc.specs.Words.{Marked, Language, OpensAt, ◌▸◌}
use Rattle.gql_doc.specs.Readers.{too_deep}
use Rattle.gql_doc.specs.Reading.{is_sign}
use Rattle.gql_doc.proofs.ReaderLaws.{Reads, Always, Seq, SomeOf, SomeWord, deep_token, convert, too_deep_reads}
use Rattle.gql_doc.proofs.TokenLaws.{start, sign_is, sign_same}

opening : Punctuator → Pos → Marked
opening sign pos = record { token = record { lexeme = lexeme.Punctuator sign; pos = pos }; deep = true }

module _ {A : Type 0} (sign : Punctuator) (Q : Pos → A → Language) (word : (pos : Pos) → SomeWord (Q pos)) where
  pub deep_reads : Reads (too_deep (is_sign sign)) (Seq (OpensAt 0 sign) Q) Always
  unfolding opening
  deep_reads = too_deep_reads (is_sign sign) (Seq (OpensAt 0 sign) Q)
      (let w = word start in (w.0, opening sign start ∷ w.1, (start, opening sign start ∷ [], w.1, refl, refl, w.2)))
      (λ t e. let w = word t.pos in (w.0, w.1, (t.pos, deep_token t ∷ [], w.1, refl, (λ i. record { token = record { lexeme = sign_is sign t.lexeme e i; pos = t.pos }; deep = true } ∷ []), w.2)))
      (λ v ms (pos, x, y, e, o, q). (record { lexeme = lexeme.Punctuator sign; pos = pos }, y, e ∙ ap (λ w. w ++ y) o, sign_same sign))

module _ {A : Type 0} (sign : Punctuator) (Q : A → Language) (word : SomeWord Q) where
  pub deep_past_reads : Reads (too_deep (is_sign sign)) (λ v. SomeOf (OpensAt 0 sign) ▸ Q v) Always
  deep_past_reads =
      convert (too_deep (is_sign sign)) (Seq (OpensAt 0 sign) (λ _. Q)) (λ v. SomeOf (OpensAt 0 sign) ▸ Q v) Always Always
      (deep_reads sign (λ _. Q) (λ _. word)) (λ v ms (a, x, y, e, p, q). (x, y, e, (a, p), q)) (λ v ms (x, y, e, (a, p), q). (a, x, y, e, p, q))
      (λ rest after. after)
