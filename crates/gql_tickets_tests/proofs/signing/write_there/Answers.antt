use Rattle.std.proofs.Common.{ap, ◌∙◌, sym, ◌≡◌, ◌∷◌, [], Some}
use Rattle.atomic_table.specs.Table.{rest}
use Rattle.gql_tickets_tests.proofs.signing.write_there.Goals as goal

pub slot_mut-requires : goal.slot_mut-requires
slot_mut-requires c = let t = c.requires.has in (c.requires.seat, (Some t.0, t.1 ∙ ap (λ l. (0, Some t.0) ∷ rest l) (sym t.1)))

pub returns-clause-told : goal.returns-clause-told
returns-clause-told c = let t = c.requires.has in let none_left : rest c.args.place.now.me.1 ≡ [] = ap rest t.1 in (
  c.in-Some.book,
  c.write.new.book,
  c.slot_mut.ensures.value ∙ ap (λ l. (0, c.slot_mut.result.now) ∷ l) none_left ∙ ap (λ x. (0, x) ∷ []) c.in-Some.is,
  ap (λ l. (0, Some c.write.new.book) ∷ l) none_left,
  c.write.ensures,
)
