use Rattle.std.proofs.Common.{drop, get_or, ap, sym, ◌∙◌, arith}
use Rattle.std.proofs.lemmas.List.{take_rest}
use Rattle.gql_tokens.specs.BytePlace.{byte_place}
use Rattle.gql_tokens.proofs.IgnoredLaws.{first_byte, ignored_byte, ignored_mark, mark_begun, nothing_left, nothing_ignored}
use Rattle.gql_tokens.proofs.gap.ignored_at.Goals as goal

pub returns-then-is_empty : goal.returns-then-is_empty
returns-then-is_empty c = nothing_left c.args.text.now (sym c.is_empty.ensures ∙ c.if-is_empty.true)

pub returns-then-is_ignored : goal.returns-then-is_ignored
returns-then-is_ignored c =
    let text = c.args.text.now in
    let b = get_or text 0 0 in (
      omega arith,
      ignored_byte c.args.place c.next_place.result text b (drop 1 text) c.requires.utf8 (first_byte text (sym c.is_empty.ensures ∙ c.if-is_empty.false)) (c.is_ignored.ensures.ascii c.if-is_ignored.true)
          (sym c.is_ignored.ensures.exact ∙ c.if-is_ignored.true) (c.next_place.ensures.exact ∙ ap (byte_place c.args.place b) (take_rest text 1)) c.next_place.ensures.line c.next_place.ensures.column,
    )

pub returns-then-begins_mark : goal.returns-then-begins_mark
returns-then-begins_mark c =
    let mark = mark_begun c.args.text.now c.requires.utf8 (sym c.begins_mark.ensures ∙ c.if-begins_mark.true) in
    (omega arith, ignored_mark c.args.place c.args.text.now mark.0 c.requires.utf8 mark.1)

pub returns-else-begins_mark : goal.returns-else-begins_mark
returns-else-begins_mark c =
    let text = c.args.text.now in
    nothing_ignored text (get_or text 0 0) (drop 1 text) c.requires.utf8 (first_byte text (sym c.is_empty.ensures ∙ c.if-is_empty.false)) (sym c.is_ignored.ensures.exact ∙ c.if-is_ignored.false) c.if-b-eq35.false
    (sym c.begins_mark.ensures ∙ c.if-begins_mark.false)
