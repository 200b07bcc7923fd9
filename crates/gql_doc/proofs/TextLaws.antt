-- The readers of whole texts: one part, and then the end.
use Rattle.std.proofs.Common.{◌≡◌, true, false, List, [], ◌∷◌, ◌++◌, Option, Some, None, Result, Ok, Err, refl, sym, ap, ◌∙◌, subst}
use Rattle.gql_base.specs.declared.pos.Pos.{Pos}
use Rattle.gql_tokens.specs.declared.token.Token.{Token}
use Rattle.gql_tokens.specs.declared.token.Lexeme.{Lexeme}
use Rattle.gql_tokens.specs.declared.token.Lexeme.TheVariants as lexeme
use Rattle.gql_tokens.specs.declared.token.Punctuator.TheVariants as sign
use Rattle.gql_doc.specs.declared.trouble.Trouble.{Trouble}
use Rattle.gql_doc.specs.declared.tree.DefinitionTree.{DefinitionTree}
use Rattle.gql_doc.specs.Words.{Tokens, Word, Language, tokens_of, plain, ◌▸◌, One, OneAt}
use Rattle.gql_doc.specs.Grammar.{IsDocument, IsDefinition, IsTypeText, IsType, max_levels}
use Rattle.gql_doc.specs.Readers.{Reader, go_on, begins, gives, mapped, ended, picked, some}
use Rattle.std.specs.Prelude.{not}
use Rattle.gql_doc.specs.Reading.{says_sign, says_name, says_end, before_end, if_so, take_end, definition, document, type_at, type_text}
use Rattle.gql_doc.proofs.ReaderLaws.{Reads, Always, Sound, Complete, Local, Ends, Taken, Seq, Map, Starts, EachOfSome, Explains-map, outcome, one_sound, one_local, mapped_sound, mapped_local, mapped_outcome, seq_sound, seq_complete, seq_local, some_reads}
use Rattle.gql_doc.proofs.TokenLaws.{start, if_so_is, sign_is}
use Rattle.gql_doc.proofs.Follows.{NextIs, NextIsName, Never}
use Rattle.gql_doc.proofs.TypeLaws.{type_reads}
use Rattle.gql_doc.proofs.DefinitionLaws.{definition_reads, before_definition}

-- The end.

end_is : (l : Lexeme) → says_end l ≡ true → l ≡ lexeme.End
end_is (lexeme.Punctuator found) e = absurd (cc e)
end_is (lexeme.Name text) e = absurd (cc e)
end_is (lexeme.Number number) e = absurd (cc e)
end_is (lexeme.String text) e = absurd (cc e)
end_is lexeme.End e = refl
end_is lexeme.Unexpected e = absurd (cc e)
end_is lexeme.Unsupported e = absurd (cc e)

abbrev pick_end : Token → Option Pos
pick_end token = if_so (says_end token.lexeme) token.pos

end_to : (p : Pos) (ms : Word) → Taken pick_end p ms → OneAt lexeme.End p ms
end_to p ms (t, e, k) =
    let so = if_so_is (says_end t.lexeme) t.pos p e in
    let l = end_is t.lexeme so.0 in
    k ∙ (λ i. plain (record { lexeme = l i; pos = so.1 i }) ∷ [])

end_sound : Sound take_end (OneAt lexeme.End)
unfolding take_end
end_sound tokens = Explains-map (Taken pick_end) (OneAt lexeme.End) end_to tokens (take_end tokens).0 (take_end tokens).1 (one_sound pick_end (record { lexeme = lexeme.End; pos = start }) start refl tokens)

end_complete : Complete take_end (OneAt lexeme.End) Always
unfolding take_end
end_complete p ms rest here _ = subst (λ w. take_end (tokens_of w ++ rest) ≡ outcome p w rest) (sym here) refl

end_local : Local take_end
unfolding take_end
end_local = one_local pick_end

-- the next token is the end
abbrev NextIsEnd : Tokens → Type 0
NextIsEnd rest = begins (λ token. says_end token.lexeme) rest ≡ true

-- Whole texts: the laws of a reader that takes the end at last, and where it stops at trouble, a token is left.
pub record ReadsText {A : Type 0} (f : Reader A) (D : A → Language) : Type 0 where
  pub sound : Sound f D
  pub complete : Complete f D Always
  pub local : Local f
  pub stops : (tokens : Tokens) (trouble : Trouble) → Ends tokens → (f tokens).0 ≡ Err trouble → Ends (f tokens).1
  pub ends : (v : A) (ms : Word) → D v ms → (x : Word) × (p : Pos) × (ms ≡ x ++ plain (record { lexeme = lexeme.End; pos = p }) ∷ [])

module _ {A : Type 0} (f : Reader A) (D : A → Language) where
  -- the part, and then the end
  abbrev pub ToEnd : A → Language
  ToEnd v = D v ▸ One lexeme.End

  abbrev Behind : A → A → Language
  Behind a = Map (λ _. a) (OneAt lexeme.End)

  to_end : (v : A) (ms : Word) → Seq D Behind v ms → ToEnd v ms
  to_end v ms (a, x, y, e, d, (p, k, end)) = (x, y, e, subst (λ w. D w x) (sym k) d, (p, end))

  from_end : (v : A) (ms : Word) → ToEnd v ms → Seq D Behind v ms
  from_end v ms (x, y, e, d, (p, end)) = (v, x, y, e, d, (p, refl, end))

  stays : (a : A) (tokens : Tokens) (trouble : Trouble) (o : Option Pos) (t : Token) → Ends (t ∷ tokens) → (go_on (picked o t tokens).0 (picked o t tokens).1 (λ _. gives a)).0 ≡ Err trouble → Ends (go_on (picked o t tokens).0 (picked o t tokens).1 (λ _. gives a)).1
  stays a tokens trouble (Some p) t ends e = absurd (cc e)
  stays a tokens trouble None t ends e = ends

  stays_here : (a : A) (tokens : Tokens) (trouble : Trouble) → Ends tokens → (mapped (λ _. a) take_end tokens).0 ≡ Err trouble → Ends (mapped (λ _. a) take_end tokens).1
  unfolding take_end
  stays_here a [] trouble ends e = absurd ends
  stays_here a (t ∷ tokens) trouble ends e = stays a tokens trouble (pick_end t) t ends e

  stops_behind : (o : Result A Trouble) (rest : Tokens) (trouble : Trouble) → Ends rest → (go_on o rest (λ a. mapped (λ _. a) take_end)).0 ≡ Err trouble → Ends (go_on o rest (λ a. mapped (λ _. a) take_end)).1
  stops_behind (Ok a) rest trouble ends e = stays_here a rest trouble ends e
  stops_behind (Err k) rest trouble ends e = ends

  pub text_reads : (F : Tokens → Type 0) → Reads f D F → ((rest : Tokens) → NextIsEnd rest → F rest) → ReadsText (ended f take_end) ToEnd
  text_reads F reads end = record {
    sound = λ tokens. Explains-map (Seq D Behind) ToEnd to_end tokens (ended f take_end tokens).0 (ended f take_end tokens).1 (seq_sound f D (λ a. mapped (λ _. a) take_end) Behind reads.sound (λ a. mapped_sound (λ _. a) take_end (OneAt lexeme.End) end_sound) tokens);
    complete = λ v ms rest h g. seq_complete f D (λ a. mapped (λ _. a) take_end) Behind F Always reads.complete
        (λ a v ms rest (p, k, here) g. mapped_outcome (λ _. a) take_end p ms rest (tokens_of ms ++ rest) (end_complete p ms rest here tt) ∙ ap (λ w. outcome w ms rest) (sym k))
        (λ a v y rest (p, k, here) g. end (tokens_of y ++ rest) (subst (λ w. NextIsEnd (tokens_of w ++ rest)) (sym here) refl)) v ms rest (from_end v ms h) g;
    local = seq_local f D (λ a. mapped (λ _. a) take_end) Behind (λ a. mapped_sound (λ _. a) take_end (OneAt lexeme.End) end_sound) reads.local (λ a. mapped_local (λ _. a) take_end end_local);
    stops = λ tokens trouble ends e. stops_behind (f tokens).0 (f tokens).1 trouble (reads.live tokens ends) e;
    ends = λ v ms (x, y, e, d, (p, here)). (x, p, e ∙ ap (λ w. x ++ w) here);
  }

text_convert : {A : Type 0} → (f : Reader A) (D E : A → Language) → ReadsText f D → ((v : A) (ms : Word) → D v ms → E v ms) → ((v : A) (ms : Word) → E v ms → D v ms) → ReadsText f E
text_convert f D E reads to from = record {
  sound = λ tokens. Explains-map D E to tokens (f tokens).0 (f tokens).1 (reads.sound tokens);
  complete = λ v ms rest h g. reads.complete v ms rest (from v ms h) g;
  local = reads.local;
  stops = reads.stops;
  ends = λ v ms h. reads.ends v ms (from v ms h);
}

-- Documents.

end_stops : (rest : Tokens) → NextIsEnd rest → begins before_end rest ≡ false
end_stops [] next = refl
end_stops (t ∷ rest) next = ap not next

brace_goes : (rest : Tokens) → NextIs sign.OpenBrace rest → begins before_end rest ≡ true
brace_goes [] next = absurd (cc next)
brace_goes (t ∷ rest) next = ap (λ l. not (says_end l)) (sign_is sign.OpenBrace t.lexeme next)

name_no_end : (l : Lexeme) → says_name l ≡ true → not (says_end l) ≡ true
name_no_end (lexeme.Punctuator found) e = absurd (cc e)
name_no_end (lexeme.Name text) e = refl
name_no_end (lexeme.Number number) e = absurd (cc e)
name_no_end (lexeme.String text) e = absurd (cc e)
name_no_end lexeme.End e = absurd (cc e)
name_no_end lexeme.Unexpected e = absurd (cc e)
name_no_end lexeme.Unsupported e = absurd (cc e)

name_goes : (rest : Tokens) → NextIsName rest → begins before_end rest ≡ true
name_goes [] next = absurd (cc next)
name_goes (t ∷ rest) next = name_no_end t.lexeme next

pub definition_starts : Starts before_end IsDefinition
definition_starts = before_definition (λ ts. begins before_end ts ≡ true) brace_goes name_goes

abbrev AreDefinitions : List DefinitionTree → Language
AreDefinitions = EachOfSome before_end definition IsDefinition

-- what is read as a document is written so, and what is written so is read
pub document_reads : ReadsText document IsDocument
unfolding document
document_reads =
    text_convert document (ToEnd (some before_end definition) AreDefinitions) IsDocument
    (text_reads (some before_end definition) AreDefinitions NextIsEnd
    (some_reads before_end definition IsDefinition Always NextIsEnd definition_reads definition_starts (λ v ms rest h. tt) (λ rest g. tt) end_stops)
    (λ rest g. g))
    (λ v ms (x, y, e, (some', each), end). (some', (x, y, e, each, end))) (λ v ms (some', (x, y, e, each, end)). (x, y, e, (some', each), end))

-- Types.

end_no_bang : (rest : Tokens) → NextIsEnd rest → Never (sign.Bang ∷ []) rest
end_no_bang [] next = absurd (cc next)
end_no_bang (t ∷ rest) next = (ap (says_sign sign.Bang) (end_is t.lexeme next), tt)

-- what is read as a type is written so, and what is written so is read
pub type_text_reads : ReadsText type_text IsTypeText
unfolding type_text
type_text_reads = text_reads (type_at max_levels) (IsType max_levels) (Never (sign.Bang ∷ [])) (type_reads max_levels) end_no_bang
