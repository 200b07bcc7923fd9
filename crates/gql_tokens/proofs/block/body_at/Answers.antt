use Rattle.std.proofs.Common.{◌≡◌, ◌+◌, ◌-◌, ℕ, Bool, true, List, ◌==◌, nat_eq, ◌++◌, take, drop, length, ap, sym, subst, ◌∙◌, arith, eqb-true, string_bytes}
use Rattle.std.proofs.lemmas.Str.{IsUtf8-string_bytes}
use Rattle.std.specs.List.{prefix_len, starts_with}
use Rattle.std.specs.Str.{IsUtf8}
use Rattle.gql_tokens.specs.Characters.{is_source, begins}
use Rattle.gql_tokens.specs.Block.{three_quotes, escaped_quotes}
use Rattle.gql_tokens.specs.Parts.{is_bare}
use Rattle.gql_tokens.proofs.Lists.{begins_so, run_stops_behind, rest_is}
use Rattle.gql_tokens.proofs.BlockCuts.{IsBodyTo, other_is_ascii, body_start, body_bare, body_quotes, body_itself, body_ends, body_unended}
use Rattle.gql_tokens.proofs.block.body_at.Goals as goal

-- how many characters that stand for themselves follow a place
bare_is : (text bytes : List ℕ) (at k : ℕ) → bytes ≡ text → k ≡ prefix_len is_bare (take (length bytes - at) (drop at bytes)) → k ≡ prefix_len is_bare (drop at text)
bare_is text bytes at k same e = e ∙ ap (prefix_len is_bare) (rest_is text bytes at same)

-- after these characters
behind_bare : (text bytes raw longer : List ℕ) (at k : ℕ) → bytes ≡ text → IsUtf8 text → IsBodyTo text raw at
    → k ≡ prefix_len is_bare (take (length bytes - at) (drop at bytes)) → longer ≡ raw ++ take (at + k - at) (drop at text)
    → IsBodyTo text longer (at + k)
behind_bare text bytes raw longer at k same u h e is =
    let one : at + k - at ≡ k = omega arith in
    subst (λ l. IsBodyTo text l (at + k)) (sym (is ∙ ap (λ n. raw ++ take n (drop at text)) one))
    (body_bare text u raw at h k (bare_is text bytes at k same e))

-- the first character of a text passes a test where the text begins with one that passes it
begins_with : (test : ℕ → Bool) (text : List ℕ) (c : ℕ) → begins (λ d. d == c) text ≡ true → begins test text ≡ test c
begins_with test text c first =
    let (d, more, is, e) = begins_so (λ d. d == c) text first in
    ap (begins test) is ∙ ap test (eqb-true d c e)

pub loop-raw-init : goal.loop-raw-init
loop-raw-init c = body_start c.args.text.now c.utf8.text c.requires (string_bytes c.new-raw.result) c.new-raw.ensures.bytes

pub range-requires-clause-end_boundary : goal.range-requires-clause-end_boundary
range-requires-clause-end_boundary c =
    let text = c.args.text.now in
    let at = c.loop-raw.at in
    let k = c.bare_length-bare.result in
    let e = bare_is text c.as_bytes-bytes.result.now at k c.as_bytes-bytes.ensures.value c.bare_length-bare.ensures.exact in
    (body_bare text c.utf8.text (string_bytes c.loop-raw.raw) at c.loop-raw.invariant k e).cut.boundary

pub found_at-requires : goal.found_at-requires
found_at-requires c =
    let text = c.args.text.now in
    let bytes = c.as_bytes-bytes.result.now in
    let same = c.as_bytes-bytes.ensures.value in
    let at = c.loop-raw.at in
    let k = c.bare_length-bare.result in
    ap (begins is_bare) (rest_is text bytes (at + k) same)
    ∙ run_stops_behind is_bare text at k (bare_is text bytes at k same c.bare_length-bare.ensures.exact)

pub returns-in-End : goal.returns-in-End
returns-in-End c =
    let text = c.args.text.now in
    let bytes = c.as_bytes-bytes.result.now in
    let same = c.as_bytes-bytes.ensures.value in
    let at = c.loop-raw.at in
    let k = c.bare_length-bare.result in
    let raw = string_bytes c.loop-raw.raw in
    let longer = string_bytes c.push_str.new.self in
    let so_far = behind_bare text bytes raw longer at k same c.utf8.text c.loop-raw.invariant
    c.bare_length-bare.ensures.exact (c.in_ok-push_str.ensures.bytes ∙ ap (λ l. raw ++ l) c.range.ensures.value) in
    body_ends text c.utf8.text longer (at + k) so_far (IsUtf8-string_bytes c.push_str.new.self)
    (ap (λ l. starts_with nat_eq l three_quotes) (sym (rest_is text bytes (at + k) same)) ∙ c.in-End.ensures)

pub loop-raw-preserved-in-Quotes : goal.loop-raw-preserved-in-Quotes
loop-raw-preserved-in-Quotes c =
    let text = c.args.text.now in
    let bytes = c.as_bytes-bytes.result.now in
    let same = c.as_bytes-bytes.ensures.value in
    let at = c.loop-raw.at in
    let k = c.bare_length-bare.result in
    let raw = string_bytes c.loop-raw.raw in
    let longer = string_bytes c.push_str.new.self in
    let so_far = behind_bare text bytes raw longer at k same c.utf8.text c.loop-raw.invariant
    c.bare_length-bare.ensures.exact (c.in_ok-push_str.ensures.bytes ∙ ap (λ l. raw ++ l) c.range.ensures.value) in
    subst (λ l. IsBodyTo text l (at + k + 4)) (sym c.in_ok-push_str-in-Quotes.ensures.bytes)
    (body_quotes text c.utf8.text longer (at + k) so_far
    (ap (λ l. starts_with nat_eq l escaped_quotes) (sym (rest_is text bytes (at + k) same)) ∙ c.in-Quotes.ensures))

pub loop-raw-preserved : goal.loop-raw-preserved
loop-raw-preserved c =
    let text = c.args.text.now in
    let bytes = c.as_bytes-bytes.result.now in
    let same = c.as_bytes-bytes.ensures.value in
    let at = c.loop-raw.at in
    let k = c.bare_length-bare.result in
    let raw = string_bytes c.loop-raw.raw in
    let longer = string_bytes c.push_str.new.self in
    let so_far = behind_bare text bytes raw longer at k same c.utf8.text c.loop-raw.invariant
    c.bare_length-bare.ensures.exact (c.in_ok-push_str.ensures.bytes ∙ ap (λ l. raw ++ l) c.range.ensures.value) in
    let rest = rest_is text bytes (at + k) same in
    let ch = c.in-Itself.c in
    let found = c.in-Itself.ensures in
    let first = ap (begins (λ d. d == ch)) (sym rest) ∙ found.0 in
    let not_bare = sym (begins_with is_bare (drop (at + k) text) ch first)
    ∙ run_stops_behind is_bare text at k (bare_is text bytes at k same c.bare_length-bare.ensures.exact) in
    subst (λ l. IsBodyTo text l (at + k + 1)) (sym c.in_ok-push-in-Itself.ensures.bytes)
    (body_itself text c.utf8.text longer (at + k) so_far ch first found.1 (other_is_ascii ch found.1 not_bare)
    (ap (λ l. starts_with nat_eq l three_quotes) (sym rest) ∙ found.2) (ap (λ l. starts_with nat_eq l escaped_quotes) (sym rest) ∙ found.3))

pub returns-in-Nothing : goal.returns-in-Nothing
returns-in-Nothing c =
    let text = c.args.text.now in
    let bytes = c.as_bytes-bytes.result.now in
    let same = c.as_bytes-bytes.ensures.value in
    let at = c.loop-raw.at in
    let k = c.bare_length-bare.result in
    let raw = string_bytes c.loop-raw.raw in
    let longer = string_bytes c.push_str.new.self in
    let so_far = behind_bare text bytes raw longer at k same c.utf8.text c.loop-raw.invariant
    c.bare_length-bare.ensures.exact (c.in_ok-push_str.ensures.bytes ∙ ap (λ l. raw ++ l) c.range.ensures.value) in
    body_unended text c.utf8.text longer (at + k) so_far
    (ap (begins is_source) (sym (rest_is text bytes (at + k) same)) ∙ c.in-Nothing.ensures)
