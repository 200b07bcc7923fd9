-- The JSON value of bytes, by what `serde_json` says of them.
use Rattle.std.proofs.Common.{◌≡◌, ℕ, List, Bool, true, false, cond, refl}
use Rattle.std.specs.Prelude.{Some, None, IsUtf8}
use Rattle.std.specs.Str.{is_utf8}
use Rattle.std.proofs.lemmas.Str.{IsUtf8-from_is_utf8, is_utf8-from_IsUtf8}
use Rattle.serde_json.specs.Data.{Data}
use Rattle.serde_json.specs.Read.{read}
use Rattle.gql_cli.specs.Gives.{json_of}

pub json_of-text : (bytes : List ℕ) (json : Data) → IsUtf8 bytes → read bytes ≡ Some json → json_of bytes ≡ Some json
unfolding json_of
json_of-text bytes json text reads = rw (is_utf8-from_IsUtf8 bytes text) reads

pub json_of-refused : (bytes : List ℕ) → (IsUtf8 bytes → read bytes ≡ None) → json_of bytes ≡ None
unfolding json_of
json_of-refused bytes refused =
    let by_test : (b : Bool) → is_utf8 bytes ≡ b → cond b (read bytes) None ≡ None =
    elim [ true ↦ λ e. refused (IsUtf8-from_is_utf8 bytes e) | false ↦ λ e. refl ] in
    by_test (is_utf8 bytes) refl
