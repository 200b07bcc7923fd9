use Rattle.std.proofs.Common.{◌∙◌}
use Rattle.gql_load.specs.Turns.{load_turn}
use Rattle.gql_load.proofs.NumberLemmas.{mapped_more, mapped_none}
use Rattle.gql_load.proofs.turns.load_turns.Goals as goal

pub loop-place-init : goal.loop-place-init
loop-place-init c = c.in_ok-turns.ensures ∙ mapped_none load_turn

pub loop-place-preserved : goal.loop-place-preserved
loop-place-preserved c =
    c.in_ok-push.ensures.ok ∙ mapped_more load_turn c.loop-place.turns c.loop-place.place c.loop-place.invariant
