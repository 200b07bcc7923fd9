use Rattle.std.proofs.Common.{◌≡◌, [], drop}
use Rattle.serde_json.specs.View.{items_view}
use Rattle.gql_form.specs.Answered.{parts_behind}
use Rattle.gql_form.proofs.answered.+answered.Given as goal

abbrev pub invariant-read_items-loop-item : goal.invariant-read_items-loop-item
invariant-read_items-loop-item l =
    parts_behind [] (items_view l.items) ≡ parts_behind l.parts (items_view (drop l.item-index l.items))
