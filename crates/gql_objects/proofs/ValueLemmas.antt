-- The items of values that are lists.
use Rattle.std.proofs.Common.{rules, ◌≡◌, List, [], map, Option, Some, None, ap, sym, ◌∙◌}
use Rattle.std.specs.Prelude.{option_map, MatchOption}
use Rattle.gql_base.specs.Kinds.{list_of}
use Rattle.gql_base.specs.declared.value.Value.{Value}
use Rattle.gql_meaning.specs.Completion.{all_items_in}
use Rattle.gql_resolve.specs.declared.field_value.FieldValue.{the_lemmas as given_lemmas}
use Rattle.gql_resolve.specs.declared.field_value.FieldValue.TheVariants as kind
use Rattle.gql_complete.specs.ObjectLists.{items_behind, items_listed}

module _ (V : Type 0) where
  items_here : (value : Value) → all_items_in {V = V} (kind.Value value) ≡ option_map (map kind.Value) (list_of value)
  items_here value = search (rules, given_lemmas)

  each : (o : Option (List Value)) (got : List Value) → MatchOption o (got ≡ []) (λ items. got ≡ items)
      → map kind.Value got ≡ items_listed {V = V} (option_map (map kind.Value) o)
  each None got is = ap (map kind.Value) is
  each (Some items) got is = ap (map kind.Value) is

  -- what a value gives as items
  pub values_behind : (value : Value) (got : List Value) → MatchOption (list_of value) (got ≡ []) (λ items. got ≡ items)
      → map kind.Value got ≡ items_behind {V = V} (Some (kind.Value value))
  values_behind value got is = each (list_of value) got is ∙ ap items_listed (sym (items_here value))
