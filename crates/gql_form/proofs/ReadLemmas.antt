-- Lists of JSON, and their lengths.
use Rattle.std.proofs.Common.{◌≡◌, List, length}
use Rattle.serde_json.specs.Events.{items_len}
use Rattle.serde_json.specs.View.{items_view}
use Rattle.serde_json.specs.declared.value.Value.{Value}
use Rattle.serde_json.proofs.Views.{items_len-items_view}

-- what contracts see of a list has its length
pub items_long : (values : List Value) → items_len (items_view values) ≡ length values
items_long = items_len-items_view
