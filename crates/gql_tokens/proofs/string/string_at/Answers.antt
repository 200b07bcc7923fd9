use Rattle.std.proofs.Common.{◌≡◌, ◌+◌, ◌-◌, ◌≤◌, ℕ, List, ◌==◌, ◌++◌, take, drop, length, ap, sym, subst, ◌∙◌, arith, string_bytes}
use Rattle.std.specs.List.{prefix_len}
use Rattle.std.specs.Str.{IsUtf8}
use Rattle.gql_tokens.specs.Characters.{quote, begins}
use Rattle.gql_tokens.specs.String.{is_plain}
use Rattle.gql_tokens.specs.Parts.{IsEscape}
use Rattle.gql_tokens.specs.Cut.{IsStringIn}
use Rattle.gql_tokens.proofs.Lists.{run_stops_behind, rest_is}
use Rattle.gql_tokens.proofs.StringCuts.{IsReadTo, read_start, read_plain, read_escape, read_end, read_none}
use Rattle.gql_tokens.proofs.string.string_at.Goals as goal

-- how many plain characters follow a place
plain_is : (text bytes : List ℕ) (at k : ℕ) → bytes ≡ text → k ≡ prefix_len is_plain (take (length bytes - at) (drop at bytes)) → k ≡ prefix_len is_plain (drop at text)
plain_is text bytes at k same e = e ∙ ap (prefix_len is_plain) (rest_is text bytes at same)

-- after the plain characters at a place
behind_plain : (text bytes value longer : List ℕ) (at k : ℕ) → bytes ≡ text → IsUtf8 text → IsReadTo text value at
    → k ≡ prefix_len is_plain (take (length bytes - at) (drop at bytes)) → longer ≡ value ++ take (at + k - at) (drop at text)
    → IsReadTo text longer (at + k)
behind_plain text bytes value longer at k same u h e is =
    let one : at + k - at ≡ k = omega arith in
    subst (λ l. IsReadTo text l (at + k)) (sym (is ∙ ap (λ n. value ++ take n (drop at text)) one))
    (read_plain text u value at h k (plain_is text bytes at k same e))

pub loop-value-init : goal.loop-value-init
loop-value-init c = read_start c.args.text.now c.utf8.text c.requires (string_bytes c.new-value.result) c.new-value.ensures.bytes

pub range-requires-clause-end_boundary : goal.range-requires-clause-end_boundary
range-requires-clause-end_boundary c =
    let text = c.args.text.now in
    let at = c.loop-value.at in
    let k = c.plain_length-plain.result in
    let e = plain_is text c.as_bytes-bytes.result.now at k c.as_bytes-bytes.ensures.value c.plain_length-plain.ensures.exact in
    (read_plain text c.utf8.text (string_bytes c.loop-value.value) at c.loop-value.invariant k e).cut.boundary

pub returns-then-begins_with_quote : goal.returns-then-begins_with_quote
returns-then-begins_with_quote c =
    let text = c.args.text.now in
    let bytes = c.as_bytes-bytes.result.now in
    let same = c.as_bytes-bytes.ensures.value in
    let at = c.loop-value.at in
    let k = c.plain_length-plain.result in
    let value = string_bytes c.loop-value.value in
    let longer = string_bytes c.push_str.new.self in
    let so_far = behind_plain text bytes value longer at k same c.utf8.text c.loop-value.invariant
    c.plain_length-plain.ensures.exact (c.in_ok-push_str.ensures.bytes ∙ ap (λ l. value ++ l) c.range.ensures.value) in
    let ends = ap (begins (λ d. d == quote)) (sym (rest_is text bytes (at + k) same)) ∙ sym c.begins_with_quote.ensures ∙ c.if-begins_with_quote.true in
    subst (λ l. IsStringIn text l (at + k + 1)) (sym c.in_ok-from_string.ensures) (read_end text c.utf8.text longer (at + k) so_far c.requires ends)

pub loop-value-preserved : goal.loop-value-preserved
loop-value-preserved c =
    let text = c.args.text.now in
    let bytes = c.as_bytes-bytes.result.now in
    let same = c.as_bytes-bytes.ensures.value in
    let at = c.loop-value.at in
    let k = c.plain_length-plain.result in
    let value = string_bytes c.loop-value.value in
    let longer = string_bytes c.push_str.new.self in
    let so_far = behind_plain text bytes value longer at k same c.utf8.text c.loop-value.invariant
    c.plain_length-plain.ensures.exact (c.in_ok-push_str.ensures.bytes ∙ ap (λ l. value ++ l) c.range.ensures.value) in
    let rest = rest_is text bytes (at + k) same in
    let found = c.in-Some.found in
    subst (λ l. IsReadTo text l (at + k + found.length)) (sym c.in_ok-push-in-Some.ensures.bytes)
    (read_escape text c.utf8.text longer (at + k) so_far found.length found.character
    (subst (λ l. found.length ≤ length l) rest c.in-Some.ensures.0) (subst (λ l. IsEscape found.character (take found.length l)) rest c.in-Some.ensures.2))

pub returns-in-None : goal.returns-in-None
returns-in-None c =
    let text = c.args.text.now in
    let bytes = c.as_bytes-bytes.result.now in
    let same = c.as_bytes-bytes.ensures.value in
    let at = c.loop-value.at in
    let k = c.plain_length-plain.result in
    let value = string_bytes c.loop-value.value in
    let longer = string_bytes c.push_str.new.self in
    let so_far = behind_plain text bytes value longer at k same c.utf8.text c.loop-value.invariant
    c.plain_length-plain.ensures.exact (c.in_ok-push_str.ensures.bytes ∙ ap (λ l. value ++ l) c.range.ensures.value) in
    let rest = rest_is text bytes (at + k) same in
    read_none text c.utf8.text longer (at + k) so_far c.requires
    (run_stops_behind is_plain text at k (plain_is text bytes at k same c.plain_length-plain.ensures.exact))
    (ap (begins (λ d. d == quote)) (sym rest) ∙ sym c.begins_with_quote.ensures ∙ c.if-begins_with_quote.false)
    (λ v cs more e. c.in-None.ensures v cs more (rest ∙ e))
