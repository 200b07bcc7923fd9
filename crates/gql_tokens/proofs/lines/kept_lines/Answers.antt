use Rattle.std.proofs.Common.{◌≡◌, ◌-◌, ℕ, List, ◌∷◌, [], take, drop, IfSome, sym, ap, ◌∙◌, subst, arith, string_bytes}
use Rattle.std.specs.Str.{IsUtf8, IsCharBoundary}
use Rattle.gql_tokens.specs.Lines.{without_indent, lines_of}
use Rattle.gql_tokens.specs.Parts.{IsFirstLine, IsKept}
use Rattle.gql_tokens.proofs.LinesLaws.{nothing_kept}
use Rattle.gql_tokens.proofs.lines.kept_lines.Goals as goal

-- a text's first line
line_is : (text slice : List ℕ) (line : ℕ) → slice ≡ take (line - 0) text → slice ≡ take line text
line_is text slice line e = let one : line - 0 ≡ line = omega arith in e ∙ ap (λ k. take k text) one

pub range-requires-clause-end_boundary : goal.range-requires-clause-end_boundary
range-requires-clause-end_boundary c = subst (λ l. IsCharBoundary l c.first_line-line.result.0) c.as_bytes.ensures.value c.first_line-line.ensures.cut

pub range_from-requires : goal.range_from-requires
range_from-requires c = λ some.
    let same = c.as_bytes.ensures.value in
    let ends = subst (λ o. IfSome o (λ n. IsCharBoundary c.as_bytes.result.now n)) c.in-Some.is (c.first_line-line.ensures.next (subst IsUtf8 (sym same) c.utf8.raw)) in
    subst (λ l. IsCharBoundary l c.in-Some.start) same ends

pub returns-in_default : goal.returns-in_default
returns-in_default c =
    let raw = c.args.raw.now in
    let line = c.first_line-line.result.0 in
    let found = subst (λ l. IsFirstLine l line c.first_line-line.result.1) c.as_bytes.ensures.value c.first_line-line.ensures.first in
    let whole = subst (IsFirstLine raw line) c.in_default.is found in
    let first = c.in_ok-push.ensures [] (nothing_kept (string_bytes c.new.result) c.new.ensures.bytes) in
    subst (λ ls. IsKept (string_bytes c.push.new.self.text) c.push.new.self.length (without_indent ls))
    (ap (λ l. l ∷ []) (line_is raw c.range.result.now line c.range.ensures.value) ∙ sym whole.1) first

pub returns : goal.returns
returns c =
    let raw = c.args.raw.now in
    let line = c.first_line-line.result.0 in
    let found = subst (λ l. IsFirstLine l line c.first_line-line.result.1) c.as_bytes.ensures.value c.first_line-line.ensures.first in
    let whole = subst (IsFirstLine raw line) c.in-Some.is found in
    let slice = c.range.result.now in
    let first = c.in_ok-push.ensures [] (nothing_kept (string_bytes c.new.result) c.new.ensures.bytes) in
    subst (λ ls. IsKept (string_bytes c.push_others.new.self.text) c.push_others.new.self.length (without_indent ls))
    (ap (λ l. slice ∷ lines_of l) c.range_from.ensures.value ∙ ap (λ l. l ∷ lines_of (drop c.in-Some.start raw)) (line_is raw slice line c.range.ensures.value) ∙ sym whole.1.2)
    (c.in_ok-push_others.ensures (slice ∷ []) first)
