-- The bytes of a text, in place or on the heap.
use Rattle.std.specs.Prelude.{ℕ, List, string_bytes}
use Rattle.std.specs.Arc.{arc_value}
use Rattle.gql_base.specs.declared.inner.Inner.{Inner}
use Rattle.gql_base.specs.declared.inner.Inner.TheVariants.{Short, Long}

abbrev pub bytes_of : Inner → List ℕ
bytes_of (Short bytes) = bytes
bytes_of (Long held) = string_bytes (arc_value held)
