use Rattle.std.proofs.Common.{codes, ◌++◌, string_bytes, ap, ◌∙◌}
use Rattle.std.proofs.lemmas.Result.{on_ok_weaker}
use Rattle.std.proofs.Math.Utf8.{encode}
use Rattle.gql_base.specs.ErrorJson.{locations_member, path_member, extensions_member}
use Rattle.gql_base.specs.Json.{quoted}
use Rattle.gql_base.proofs.ErrorJsonLemmas.{six-appended, when-ok}
use Rattle.gql_base.proofs.error_json.push_error.Goals as goal

pub returns : goal.returns
unfolding encode
returns c =
    let error = c.args.error.now in
    on_ok_weaker c.push.result
    (six-appended (string_bytes c.args.out.now) (string_bytes c.push_str.new.self) (string_bytes c.push_quoted.new.out)
    (string_bytes c.push_locations.new.out) (string_bytes c.push_path.new.out) (string_bytes c.push_extensions.new.out) (string_bytes c.push.new.self)
    (codes "{\"message\":") (quoted error.message) (locations_member error.locations) (path_member error.path)
    (extensions_member error.extensions) (codes "}") c.in_ok-push_str.ensures.bytes
    (c.in_ok-push_quoted.ensures ∙ ap (λ text. string_bytes c.push_str.new.self ++ quoted text) c.as_str.ensures)
    (c.in_ok-push_locations.ensures ∙ ap (λ items. string_bytes c.push_quoted.new.out ++ locations_member items) c.as_slice.ensures)
    (c.in_ok-push_path.ensures ∙ ap (λ items. string_bytes c.push_locations.new.out ++ path_member items) c.as_slice-2.ensures)
    c.in_ok-push_extensions.ensures)
    (when-ok c.push.result (string_bytes c.push.new.self) (string_bytes c.push_extensions.new.out ++ codes "}") (string_bytes c.push_extensions.new.out)
    c.push.ensures.bytes)
