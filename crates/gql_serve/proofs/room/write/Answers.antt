use Rattle.std.proofs.Common.{◌≡◌, ◌++◌, [], ◌∷◌, Some, ap, slice_get, subst, sym, ◌∙◌}
use Rattle.std.proofs.lemmas.List.{append-nil}
use Rattle.gql_serve.proofs.RoomLemmas.{last_there}
use Rattle.gql_serve.specs.Room.{StandsAt}
use Rattle.gql_serve.proofs.room.write.Goals as goal
use Rattle.gql_serve.proofs.room.write.Goals.{in-None, in-Some}

pub returns-clause-schemas : goal.returns-clause-schemas
returns-clause-schemas g c = elim c.match-kept.branch [
  | in-None w ↦ ([], (λ i. (w.schemas-is i).items) ∙ sym (append-nil c.args.schemas.now.items))
  | in-Some w ↦ (w.in-Some.kept ∷ [], (λ i. (w.schemas-is i).items) ∙ w.push_reserved.ensures.items)
]

pub returns-clause-there : goal.returns-clause-there
returns-clause-there g c = elim c.match-kept.branch [
  | in-None w ↦
      subst (λ schemas. slice_get schemas c.args.room.place ≡ Some c.args._schema.now) (sym (λ i. (w.schemas-is i).items))
      (subst (λ kept. StandsAt c.args.schemas.now c.args._schema.now c.args.room.place kept) w.in-None.is c.requires.stands)
  | in-Some w ↦
      let stands = subst (λ kept. StandsAt c.args.schemas.now c.args._schema.now c.args.room.place kept) w.in-Some.is c.requires.stands in
      subst (λ schemas. slice_get schemas c.args.room.place ≡ Some c.args._schema.now)
      (sym ((λ i. (w.schemas-is i).items) ∙ w.push_reserved.ensures.items))
      (ap (slice_get (c.args.schemas.now.items ++ w.in-Some.kept ∷ [])) stands.1 ∙ last_there c.args.schemas.now.items w.in-Some.kept ∙ ap Some stands.0)
]
