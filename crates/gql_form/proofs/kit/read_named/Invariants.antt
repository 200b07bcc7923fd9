use Rattle.std.proofs.Common.{◌≡◌, [], drop}
use Rattle.serde_json.specs.View.{items_view}
use Rattle.gql_form.specs.Read.{named_behind}
use Rattle.gql_form.proofs.kit.read_named.Given as goal

abbrev pub invariant-loop-item : goal.invariant-loop-item
invariant-loop-item g l =
    named_behind (g.T.Named.behind l.reader.cells) [] (items_view l.items)
    ≡ named_behind (g.T.Named.behind l.reader.cells) l.pairs (items_view (drop l.item-index l.items))
