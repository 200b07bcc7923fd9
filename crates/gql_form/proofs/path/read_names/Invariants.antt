use Rattle.std.proofs.Common.{◌≡◌, ◌++◌, length, IsUtf8}
use Rattle.std.specs.List.{list_all}
use Rattle.gql_base.specs.Letters.{is_name}
use Rattle.gql_form.specs.Path.{parts}
use Rattle.gql_form.proofs.path.read_names.Given as goal

abbrev pub invariant-loop-front : goal.invariant-loop-front
invariant-loop-front l =
    (parts l.text ≡ l.names ++ parts l.left) × (list_all is_name (parts l.text) ≡ list_all is_name (parts l.left)) × IsUtf8 l.left

abbrev pub decreases-loop-front : goal.decreases-loop-front
decreases-loop-front l = length l.left
