use Rattle.std.proofs.Common.{◌+◌, ◌≤◌, IsTrue, length, subst, sym, arith}
use Rattle.gql_conflicts.specs.Merged.{known_by}
use Rattle.gql_conflicts.proofs.MergedLemmas.{AreNumbers, numbers_all, numbers_begin, numbers_more}
use Rattle.gql_conflicts.proofs.merging.numbers_of.Goals as goal

pub loop-occurrence-init : goal.loop-occurrence-init
loop-occurrence-init c =
    let so : IsTrue c.in_ok-add_number.field-0 = cc in
    numbers_begin (known_by c.args.reader.now) c.args.group.now.first c.args.group.now.more.items c.new-numbers.result.items c.add_number.new.numbers.items
    c.field.result.now c.new-numbers.ensures.items c.field.ensures (c.in_ok-add_number.ensures so)

pub loop-occurrence-preserved : goal.loop-occurrence-preserved
loop-occurrence-preserved c =
    let known = known_by c.args.reader.now in
    let first = c.args.group.now.first in
    let more = c.as_slice-occurrence-items.result.now in
    let listed = c.as_slice-occurrence-items.ensures.value in
    let so : IsTrue c.in_ok-add_number-2.field-0 = cc in
    subst (λ xs. AreNumbers known first xs c.add_number-in-loop-occurrence.new.numbers.items (c.loop-occurrence.occurrence-index + 1)) listed
    (numbers_more known first more c.loop-occurrence.occurrence-index c.occurrence-item.result c.loop-occurrence.numbers.items
    c.add_number-in-loop-occurrence.new.numbers.items c.loop-occurrence-test.true c.occurrence-item.is
    (subst (λ xs. AreNumbers known first xs c.loop-occurrence.numbers.items c.loop-occurrence.occurrence-index) (sym listed) c.loop-occurrence.invariant)
    (c.in_ok-add_number-2.ensures so))

pub returns : goal.returns
returns c =
    let more = c.args.group.now.more.items in
    let over : length more ≤ c.loop-occurrence.occurrence-index = omega arith in
    numbers_all (known_by c.args.reader.now) c.args.group.now.first more c.loop-occurrence.occurrence-index c.loop-occurrence.numbers.items
    c.loop-occurrence.invariant over
