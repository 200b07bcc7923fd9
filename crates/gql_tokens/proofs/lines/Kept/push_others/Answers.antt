use Rattle.std.proofs.Common.{◌≡◌, ℕ, List, ◌++◌, ◌∷◌, [], ◌+◌, ◌-◌, length, take, drop, IfSome, unwrap_or, refl, sym, ap, ◌∙◌, subst, append_assoc, append-nil, drop-drop, map, arith, string_bytes}
use Rattle.std.proofs.lemmas.Str.{IsUtf8-drop, IsCharBoundary-start, IsCharBoundary-from_rest}
use Rattle.std.specs.Str.{IsUtf8, IsCharBoundary}
use Rattle.gql_tokens.specs.Lines.{lines_of, common_indent}
use Rattle.gql_tokens.specs.Parts.{IsFirstLine, IsKept}
use Rattle.gql_tokens.proofs.Lists.{rest_is}
use Rattle.gql_tokens.proofs.LinesLaws.{others_step, others_end}
use Rattle.gql_tokens.proofs.LinesCuts.{AllFit, Fits, common_fits, line_fits, next_fit}
use Rattle.gql_tokens.proofs.lines.Kept.push_others.Goals as goal

-- the first line that is left
line_is : (text slice : List ℕ) (start line : ℕ) → slice ≡ take (start + line - start) (drop start text) → slice ≡ take line (drop start text)
line_is text slice start line e = let one : start + line - start ≡ line = omega arith in e ∙ ap (λ k. take k (drop start text)) one

-- one line more
pushed : (kept : List ℕ) (size : ℕ) (lines done : List (List ℕ)) (line piece : List ℕ) → line ≡ piece → IsKept kept size ((lines ++ done) ++ line ∷ [])
    → IsKept kept size (lines ++ (done ++ piece ∷ []))
pushed kept size lines done line piece e h = subst (IsKept kept size) (ap (λ l. (lines ++ done) ++ l ∷ []) e ∙ append_assoc lines done (piece ∷ [])) h

pub loop-n-init : goal.loop-n-init
loop-n-init c =
    let text = c.args.text.now in
    let indent = c.unwrap_or-indent.ensures ∙ ap (λ o. unwrap_or o 0) (c.common_indent.ensures ∙ ap (λ l. common_indent (lines_of l)) c.as_bytes-bytes.ensures.value) in
    record {
      cut = IsCharBoundary-start text c.utf8.text;
      fits = subst (λ n. AllFit n (lines_of text)) (sym indent) (common_fits (lines_of text));
      so_far = ([], refl, (λ lines h. subst (IsKept (string_bytes c.args.self.now.text) c.args.self.now.length) (sym (append-nil lines)) h));
    }

pub range-requires-clause-end_boundary : goal.range-requires-clause-end_boundary
range-requires-clause-end_boundary c =
    let text = c.args.text.now in
    let start = c.loop-n.start in
    let line = c.first_line-line.result.0 in
    let rest = rest_is text c.as_bytes-bytes.result.now start c.as_bytes-bytes.ensures.value in
    IsCharBoundary-from_rest text start line c.loop-n.invariant.cut.0 (subst (λ l. IsCharBoundary l line) rest c.first_line-line.ensures.cut)

pub without_indent-requires : goal.without_indent-requires
without_indent-requires c =
    let text = c.args.text.now in
    let start = c.loop-n.start in
    let line = c.first_line-line.result.0 in
    let indent = c.unwrap_or-indent.result in
    let rest = rest_is text c.as_bytes-bytes.result.now start c.as_bytes-bytes.ensures.value in
    let first = subst (λ l. IsFirstLine l line c.first_line-line.result.1) rest c.first_line-line.ensures.first in
    subst (Fits indent) (sym (line_is text c.range.result.now start line c.range.ensures.value))
    (line_fits indent (drop start text) line c.first_line-line.result.1 first c.loop-n.invariant.fits)

pub loop-n-preserved : goal.loop-n-preserved
loop-n-preserved c =
    let text = c.args.text.now in
    let start = c.loop-n.start in
    let line = c.first_line-line.result.0 in
    let next = c.in-Some.n in
    let indent = c.unwrap_or-indent.result in
    let so_far = c.loop-n.invariant.so_far in
    let cut = c.loop-n.invariant.cut in
    let bytes = c.as_bytes-bytes.result.now in
    let slice = take (length bytes - start) (drop start bytes) in
    let rest = rest_is text bytes start c.as_bytes-bytes.ensures.value in
    let found = subst (λ l. IsFirstLine l line c.first_line-line.result.1) rest c.first_line-line.ensures.first in
    let first = subst (IsFirstLine (drop start text) line) c.in-Some.is found in
    let ends = subst (λ o. IfSome o (λ n. IsCharBoundary slice n)) c.in-Some.is (c.first_line-line.ensures.next (subst IsUtf8 (sym rest) (IsUtf8-drop text start c.utf8.text cut))) in
    let piece = drop indent (take line (drop start text)) in
    let same = c.without_indent.ensures ∙ ap (drop indent) (line_is text c.range.result.now start line c.range.ensures.value) in
    record {
      cut = IsCharBoundary-from_rest text start next cut.0 (subst (λ l. IsCharBoundary l next) rest ends);
      fits = subst (λ l. AllFit indent (lines_of l)) (drop-drop next start text) (next_fit indent (drop start text) line next first c.loop-n.invariant.fits);
      so_far = (
        so_far.0 ++ piece ∷ [],
        others_step indent start line next text so_far.0 first so_far.1,
        λ lines h.
            pushed (string_bytes c.push.new.self.text) c.push.new.self.length lines so_far.0 c.without_indent.result.now piece same
            (c.in_ok-push.ensures (lines ++ so_far.0) (so_far.2 lines h)),
      );
    }

pub returns-in-None : goal.returns-in-None
returns-in-None c = λ lines h.
    let text = c.args.text.now in
    let start = c.loop-n.start in
    let line = c.first_line-line.result.0 in
    let indent = c.unwrap_or-indent.result in
    let so_far = c.loop-n.invariant.so_far in
    let rest = rest_is text c.as_bytes-bytes.result.now start c.as_bytes-bytes.ensures.value in
    let found = subst (λ l. IsFirstLine l line c.first_line-line.result.1) rest c.first_line-line.ensures.first in
    let first = subst (IsFirstLine (drop start text) line) c.in-None.is found in
    let piece = drop indent (take line (drop start text)) in
    let same = c.without_indent.ensures ∙ ap (drop indent) (line_is text c.range.result.now start line c.range.ensures.value) in
    let common = c.unwrap_or-indent.ensures ∙ ap (λ o. unwrap_or o 0) (c.common_indent.ensures ∙ ap (λ l. common_indent (lines_of l)) c.as_bytes-bytes.ensures.value) in
    let whole = others_end indent start line text so_far.0 first so_far.1 ∙ ap (λ n. map (drop n) (lines_of text)) common in
    subst (λ ls. IsKept (string_bytes c.push.new.self.text) c.push.new.self.length (lines ++ ls)) whole
    (pushed (string_bytes c.push.new.self.text) c.push.new.self.length lines so_far.0 c.without_indent.result.now piece same
    (c.in_ok-push.ensures (lines ++ so_far.0) (so_far.2 lines h)))
