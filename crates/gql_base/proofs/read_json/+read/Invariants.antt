use Rattle.std.proofs.Common.{◌≡◌, [], drop}
use Rattle.serde_json.specs.View.{items_view, members_view}
use Rattle.gql_base.specs.ReadJson.{items_in, members_in}
use Rattle.gql_base.proofs.read_json.+read.Given as goal

abbrev pub invariant-read_items-loop-item : goal.invariant-read_items-loop-item
invariant-read_items-loop-item l =
    items_in l.form [] (items_view l.items) ≡ items_in l.form l.values (items_view (drop l.item-index l.items))

abbrev pub invariant-read_members-loop-name : goal.invariant-read_members-loop-name
invariant-read_members-loop-name l =
    members_in l.form [] (members_view l.members.entries) ≡ members_in l.form l.pairs (members_view l.name-iterator)
