-- A header that an answer sets or adds to: `["insert", name, value]` or `["append", name, value]`.
use Rattle.std.specs.Prelude.{ℕ, List, [], codes, Ok, Err, if◌then◌else◌}
use Rattle.std.specs.List.{list_all}
use Rattle.std.specs.Str.{bytes_eq}
use Rattle.serde_json.specs.Data.{Data}
use Rattle.http_header.specs.FieldName.{is_field_name}
use Rattle.http_header.specs.FieldValue.{FieldValue, plain_value}
use Rattle.http_header.specs.Token.{is_value_byte, lowercase}
use Rattle.gql_base.specs.ReadJson.{Reading}
use Rattle.gql_request.specs.declared.header_op.HeaderOp.{HeaderOp}
use Rattle.gql_request.specs.declared.header_op.HeaderOp.TheVariants.{Insert, Append}
use Rattle.gql_form.specs.declared.header.HeaderWord.{HeaderWord}
use Rattle.gql_form.specs.declared.header.HeaderWord.TheVariants as word
use Rattle.gql_form.specs.Plain.{text_of, ◌>>=◌}
use Rattle.gql_form.specs.Read.{long, nth}

abbrev pub header_word_of : Data → Reading HeaderWord
header_word_of json = do
  text ← text_of json
  if bytes_eq text (codes "insert") then Ok word.Insert
      else (if bytes_eq text (codes "append") then Ok word.Append else Err [])

-- the name of a header, kept in lower case
abbrev pub header_name_in : List ℕ → Reading (List ℕ)
header_name_in text = if is_field_name text then Ok (lowercase text) else Err []

abbrev pub header_name_of : Data → Reading (List ℕ)
header_name_of json = do
  text ← text_of json
  header_name_in text

-- the value of a header
abbrev pub header_value_in : List ℕ → Reading FieldValue
header_value_in text = if list_all is_value_byte text then Ok (plain_value text) else Err []

abbrev pub header_value_of : Data → Reading FieldValue
header_value_of json = do
  text ← text_of json
  header_value_in text

abbrev pub header_op : HeaderWord → List ℕ → FieldValue → HeaderOp
header_op word.Insert name value = Insert name value
header_op word.Append name value = Append name value

abbrev pub header_of : Data → Reading HeaderOp
header_of json = do
  _ ← long 3 json
  word ← nth 0 header_word_of json
  name ← nth 1 header_name_of json
  value ← nth 2 header_value_of json
  Ok (header_op word name value)
