use Rattle.std.proofs.Common.{◌≡◌, ℕ, List, ◌++◌, ◌∷◌, [], length, sym, ap, ◌∙◌, subst, eqb-true, eq-eqb, ne_eqb, append_assoc, arith, string_bytes}
use Rattle.std.proofs.lemmas.Bool.{eqb-false}
use Rattle.std.proofs.lemmas.List.{nil_from_length}
use Rattle.std.proofs.lemmas.Str.{encode_ascii}
use Rattle.gql_tokens.specs.Characters.{line_feed}
use Rattle.gql_tokens.specs.Lines.{indent_of}
use Rattle.gql_tokens.specs.Parts.{IsKept}
use Rattle.gql_tokens.proofs.LinesLaws.{kept_none, kept_first, kept_blank, kept_more}
use Rattle.gql_tokens.proofs.lines.Kept.push.Goals as goal

-- how many tabs and blanks the line begins with
indent_is : (bytes line : List ℕ) (n : ℕ) → bytes ≡ line → n ≡ indent_of bytes → n ≡ indent_of line
indent_is bytes line n same e = e ∙ ap indent_of same

pub returns-then-blank : goal.returns-then-blank
returns-then-blank c = λ lines h.
    let text = string_bytes c.args.self.now.text in
    let size = c.args.self.now.text.bytes.ok.0 in
    let none = nil_from_length text (sym size ∙ eqb-true _ 0 (sym c.if-is_empty.ensures)) in
    kept_none text c.args.self.now.length lines c.args.line.now h none (eq-eqb _ _ (sym (indent_is c.as_bytes.result.now c.args.line.now c.indent_length.result c.as_bytes.ensures.value c.indent_length.ensures.exact) ∙ c.if-blank.true))

pub returns-then-is_empty : goal.returns-then-is_empty
returns-then-is_empty c = λ lines h.
    let text = string_bytes c.args.self.now.text in
    let size = c.args.self.now.text.bytes.ok.0 in
    let line = c.args.line.now in
    let none = nil_from_length text (sym size ∙ eqb-true _ 0 (sym c.if-is_empty.ensures)) in
    let only : string_bytes c.push_str.new.self ≡ line = c.in_ok-push_str.ensures.bytes ∙ ap (λ l. l ++ line) none in
    subst (λ l. IsKept l (length line) (lines ++ line ∷ [])) (sym only)
    (kept_first text c.args.self.now.length lines line h none (ne_eqb _ _ (λ e. c.if-blank.false (indent_is c.as_bytes.result.now c.args.line.now c.indent_length.result c.as_bytes.ensures.value c.indent_length.ensures.exact ∙ e))))

pub returns-then-not-blank : goal.returns-then-not-blank
returns-then-not-blank c = λ lines h.
    let text = string_bytes c.args.self.now.text in
    let size = c.args.self.now.text.bytes.ok.0 in
    let line = c.args.line.now in
    let whole : string_bytes c.push_str-2.new.self ≡ text ++ line_feed ∷ line =
    c.in_ok-push_str-2.ensures.bytes ∙ ap (λ l. l ++ line) (c.in_ok-push.ensures.bytes ∙ ap (λ l. text ++ l) (encode_ascii line_feed (omega arith))) ∙ append_assoc text (line_feed ∷ []) line in
    subst (λ l. IsKept l c.len-self.result (lines ++ line ∷ [])) (sym whole)
    (kept_more text c.args.self.now.length lines line h
    (λ e. eqb-false _ 0 (sym c.if-is_empty.ensures) (size ∙ ap length e)) (ne_eqb _ _ (λ e. c.if-not-blank.true (indent_is c.as_bytes.result.now c.args.line.now c.indent_length.result c.as_bytes.ensures.value c.indent_length.ensures.exact ∙ e))) c.len-self.result
    (c.len-self.ensures ∙ c.push_str-2.new.self.bytes.ok.0 ∙ ap length whole))

pub returns-else-not-blank : goal.returns-else-not-blank
returns-else-not-blank c = λ lines h.
    let text = string_bytes c.args.self.now.text in
    let size = c.args.self.now.text.bytes.ok.0 in
    let line = c.args.line.now in
    let whole : string_bytes c.push_str-2.new.self ≡ text ++ line_feed ∷ line =
    c.in_ok-push_str-2.ensures.bytes ∙ ap (λ l. l ++ line) (c.in_ok-push.ensures.bytes ∙ ap (λ l. text ++ l) (encode_ascii line_feed (omega arith))) ∙ append_assoc text (line_feed ∷ []) line in
    subst (λ l. IsKept l c.args.self.now.length (lines ++ line ∷ [])) (sym whole)
    (kept_blank text c.args.self.now.length lines line h
    (λ e. eqb-false _ 0 (sym c.if-is_empty.ensures) (size ∙ ap length e)) (eq-eqb _ _ (sym (indent_is c.as_bytes.result.now c.args.line.now c.indent_length.result c.as_bytes.ensures.value c.indent_length.ensures.exact) ∙ c.if-not-blank.false)))
