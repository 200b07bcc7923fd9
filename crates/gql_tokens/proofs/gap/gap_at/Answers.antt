use Rattle.std.proofs.Common.{subst, sym}
use Rattle.std.proofs.lemmas.List.{take_rest}
use Rattle.std.specs.Str.{IsUtf8}
use Rattle.gql_tokens.specs.Cut.{IsIgnoredIn}
use Rattle.gql_tokens.proofs.CutLemmas.{utf8_behind}
use Rattle.gql_tokens.proofs.IgnoredLaws.{ignored_none, ignored_more}
use Rattle.gql_tokens.proofs.gap.gap_at.Goals as goal

pub loop-next-init : goal.loop-next-init
loop-next-init c = ignored_none c.args.place c.args.text.now c.requires.utf8

pub ignored_at-requires-clause-utf8 : goal.ignored_at-requires-clause-utf8
ignored_at-requires-clause-utf8 c =
    let text = c.args.text.now in
    let ignored = c.loop-next.invariant in
    subst IsUtf8 (sym (take_rest text c.loop-next.gap.length)) (utf8_behind text c.loop-next.gap.length ignored.count c.requires.utf8 ignored.cut)

pub loop-next-preserved : goal.loop-next-preserved
loop-next-preserved c =
    let text = c.args.text.now in
    let gap = c.loop-next.gap in
    let next = c.in-Some.next in
    ignored_more c.args.place gap.place next.place text gap.length next.length c.requires.utf8 c.loop-next.invariant
    (subst (λ l. IsIgnoredIn gap.place l next.length next.place) (take_rest text gap.length) c.in-Some.ensures.1)
