use Rattle.std.specs.Prelude.{◌≡◌, ◌++◌, drop}
use Rattle.std.specs.List.{flat_map}
use Rattle.gql_resolve.specs.Beneath.{fields_beneath, named}
use Rattle.gql_resolve.specs.SelectionField.{all_seen}
use Rattle.gql_resolve.proofs.look_ahead.Lookahead.field.Given as goal

abbrev pub invariant-loop-field : goal.invariant-loop-field
invariant-loop-field l =
    all_seen l.fields ++ flat_map (λ seen. named l.name (fields_beneath seen)) (all_seen (drop l.field-index l.self.fields))
    ≡ flat_map (λ seen. named l.name (fields_beneath seen)) (all_seen l.self.fields)
