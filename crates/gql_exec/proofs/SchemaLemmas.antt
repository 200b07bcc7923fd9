-- A schema is known by its types and its settings.
use Rattle.std.proofs.Common.{◌≡◌, ◌<◌, ◌↔◌, Bool, true, false, IsTrue, ap, sym, ◌∙◌}
use Rattle.std.proofs.Props.{props}
use mathlib.Core.HLevel.{is_prop→PathP}
use Rattle.std.below.core.specs.declared.int.usize.TheConstants.{MAX}
use Rattle.gql_schema.specs.Keyed.{IsKeyed}
use Rattle.gql_schema.specs.Sound.{IsSound}
use Rattle.gql_schema.specs.Table.{types_of}
use Rattle.gql_schema.specs.Types.{type_name}
use Rattle.gql_schema.specs.declared.types.Types.{Types}
use Rattle.gql_exec.specs.Schema.{settings_of, types_in}
use Rattle.gql_exec.specs.declared.schema.Schema.{Schema}

-- a table of types is known by its types
pub one_table : (one other : Types) → types_of one ≡ types_of other → one ≡ other
one_table one other same = λ i. record { table = same i }

same_parts : (one other : Schema) → types_in one ≡ types_in other → settings_of one ≡ settings_of other → one ≡ other
same_parts one other types settings = λ i. record {
  types = types i;
  settings = settings i;
  is_sound = is_prop→PathP (λ j. ∥ IsSound (types_of (types j)) ∥₁) (λ j. hlevel props) one.is_sound other.is_sound i;
  is_keyed = is_prop→PathP (λ j. IsKeyed type_name (types_of (types j))) (λ j. hlevel props) one.is_keyed other.is_keyed i;
  is_limited = is_prop→PathP (λ j. (settings j).depth < MAX) (λ j. hlevel props) one.is_limited other.is_limited i;
}

pub one_schema : (one other : Schema) → types_of (types_in one) ≡ types_of (types_in other) → settings_of one ≡ settings_of other → one ≡ other
one_schema one other table settings = same_parts one other (one_table (types_in one) (types_in other) table) settings

-- where the types are equal, schemas are where their settings are
pub equal_where : (one other : Schema) (typed settled : Bool) → (IsTrue typed ↔ (types_in one ≡ types_in other)) → typed ≡ true
    → (IsTrue settled ↔ (settings_of one ≡ settings_of other)) → IsTrue settled ↔ (one ≡ other)
equal_where one other typed settled types so settings = (λ h. same_parts one other (types.0 so) (settings.0 h), λ same. settings.1 (ap settings_of same))

-- and where they aren't, schemas aren't, either
pub differ_where : (one other : Schema) (typed : Bool) → (IsTrue typed ↔ (types_in one ≡ types_in other)) → typed ≡ false → IsTrue false ↔ (one ≡ other)
differ_where one other typed types not = (λ h. cc, λ same. sym not ∙ types.1 (ap types_in same))
