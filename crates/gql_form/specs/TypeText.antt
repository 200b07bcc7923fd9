-- The type that a text spells (GraphQL, October 2021, section 2.11), as a function of the text: the
-- tokens that may stand in a type, and what they are read as.
use Rattle.std.specs.Prelude.{ℕ, ◌==◌, List, [], ◌∷◌, ◌++◌, Option, Some, None, if◌then◌else◌}
use Rattle.std.specs.Prelude.{option_map, encode_utf8_all}
use Rattle.std.specs.Result.{result_ok}
use Rattle.std.specs.Str.{chars}
use Rattle.serde_json.specs.Data.{Data}
use Rattle.gql_base.specs.Letters.{is_name_start, is_name_part}
use Rattle.gql_base.specs.ReadJson.{Reading}
use Rattle.gql_base.specs.declared.pos.Pos.{Pos}
use Rattle.gql_base.specs.declared.type_ref.TypeRef.{TypeRef}
use Rattle.gql_tokens.specs.Characters.{hash, is_line_end, is_comment_character, is_ignored}
use Rattle.gql_tokens.specs.Place.{next_place, text_start}
use Rattle.gql_tokens.specs.declared.token.Lexeme.{Lexeme}
use Rattle.gql_tokens.specs.declared.token.Lexeme.TheVariants as lexeme
use Rattle.gql_tokens.specs.declared.token.Punctuator.TheVariants as sign
use Rattle.gql_tokens.specs.declared.token.Token.{Token}
use Rattle.gql_doc.specs.Reading.{parsed_by, type_text}
use Rattle.gql_form.specs.Plain.{needed, text_of, ◌>>=◌}

abbrev pub token_at : Pos → Lexeme → Token
token_at place lexeme = record { lexeme = lexeme; pos = place }

-- the tokens after this one
abbrev pub behind : Token → Option (List Token) → Option (List Token)
behind token tokens = option_map (λ others. token ∷ others) tokens

-- the name of these characters
abbrev pub name_token : Pos → List ℕ → Token
name_token place name = token_at place (lexeme.Name (encode_utf8_all name))

-- The tokens of a text from a place on, with the end as the last; none where a token stands in it
-- that no type has.
abbrev mutual
  pub tokens_from : Pos → List ℕ → Option (List Token)
  tokens_from place [] = Some (token_at place lexeme.End ∷ [])
  tokens_from place (c ∷ cs) =
      if is_ignored c then tokens_from (next_place place c cs) cs
      else (if c == hash then in_comment (next_place place c cs) cs
      else (if c == 33
      then behind (token_at place (lexeme.Punctuator sign.Bang))
      (tokens_from (next_place place c cs) cs)
      else (if c == 91
      then behind (token_at place (lexeme.Punctuator sign.OpenBracket))
      (tokens_from (next_place place c cs) cs)
      else (if c == 93
      then behind (token_at place (lexeme.Punctuator sign.CloseBracket))
      (tokens_from (next_place place c cs) cs)
      else (if is_name_start c then in_name place (c ∷ []) (next_place place c cs) cs else None)))))

  pub in_comment : Pos → List ℕ → Option (List Token)
  in_comment place [] = Some (token_at place lexeme.End ∷ [])
  in_comment place (c ∷ cs) =
      if is_line_end c then tokens_from (next_place place c cs) cs
      else (if is_comment_character c then in_comment (next_place place c cs) cs else None)

  -- within a name that began at a place with these characters
  pub in_name : Pos → List ℕ → Pos → List ℕ → Option (List Token)
  in_name start name place [] = Some (name_token start name ∷ token_at place lexeme.End ∷ [])
  in_name start name place (c ∷ cs) =
      if is_name_part c then in_name start (name ++ c ∷ []) (next_place place c cs) cs
      else behind (name_token start name) (
      if is_ignored c then tokens_from (next_place place c cs) cs
      else (if c == hash then in_comment (next_place place c cs) cs
      else (if c == 33
      then behind (token_at place (lexeme.Punctuator sign.Bang))
      (tokens_from (next_place place c cs) cs)
      else (if c == 91
      then behind (token_at place (lexeme.Punctuator sign.OpenBracket))
      (tokens_from (next_place place c cs) cs)
      else (if c == 93
      then behind (token_at place (lexeme.Punctuator sign.CloseBracket))
      (tokens_from (next_place place c cs) cs)
      else (if is_name_start c
      then in_name place (c ∷ []) (next_place place c cs) cs else None))))))

-- the type that these tokens are, if they are one
abbrev pub type_of_tokens : Option (List Token) → Option TypeRef
type_of_tokens None = None
type_of_tokens (Some tokens) = result_ok (parsed_by type_text tokens)

-- the type, if the text is one
abbrev pub type_in : List ℕ → Option TypeRef
type_in text = type_of_tokens (tokens_from text_start (chars text))

-- a text that is a type
abbrev pub type_ref_of : Data → Reading TypeRef
type_ref_of json = do
  text ← text_of json
  needed (type_in text)
