use Rattle.std.proofs.Common.{◌≡◌, [], drop}
use Rattle.serde_json.specs.View.{items_view}
use Rattle.gql_form.specs.Read.{items_behind}
use Rattle.gql_form.proofs.kit.read_items.Given as goal

abbrev pub invariant-loop-item : goal.invariant-loop-item
invariant-loop-item g l =
    items_behind (g.T.Form.reading l.reader.cells) [] (items_view l.items)
    ≡ items_behind (g.T.Form.reading l.reader.cells) l.values (items_view (drop l.item-index l.items))
