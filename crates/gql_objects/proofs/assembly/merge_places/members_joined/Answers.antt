-- One more place comes under its key.
use Rattle.std.proofs.Common.{drop, sym, ap, ◌∙◌}
use Rattle.std.specs.List.{zip}
use Rattle.gql_base.specs.Pairs.{unite_all}
use Rattle.gql_place.specs.Join.{join}
use Rattle.gql_objects.proofs.JoiningLemmas.{joined_more, joined_none}
use Rattle.gql_objects.proofs.JoiningLemmas.{nil_from_rest}
use Rattle.gql_objects.proofs.assembly.merge_places.members_joined.Goals as goal
use Rattle.gql_objects.proofs.assembly.merge_places.members_joined.Goals.{in-Some+in_ok-unite_place, in_default}

pub loop-name-preserved : goal.loop-name-preserved
loop-name-preserved c = elim c.match-pop_front.branch [
  | in-Some+in_ok-unite_place w ↦
      joined_more c.args.names.now c.loop-name.name-index c.name-item.result c.loop-name.own.items c.pop_front.new.self.items
      w.in-Some.place
      c.loop-name.members c.match-pop_front.members _ c.loop-name-test.true c.name-item.is w.in-Some.ensures.items
      (w.members-is ∙ w.in_ok-unite_place.ensures) c.loop-name.invariant
  | in_default w ↦
      joined_none c.args.names.now c.loop-name.name-index c.loop-name.own.items c.pop_front.new.self.items c.match-pop_front.members _
      (nil_from_rest c.loop-name.own.items (w.in_default.ensures.items ∙ c.pop_front.ensures.rest)) (sym w.in_default.ensures.items)
      (ap (λ ms. unite_all join ms (zip (drop c.loop-name.name-index c.args.names.now) c.loop-name.own.items)) w.members-is
      ∙ c.loop-name.invariant)
]
